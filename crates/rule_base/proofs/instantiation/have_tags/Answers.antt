-- One tag more, which is the element's or isn't.
use Rattle.std.proofs.Common.{◌<◌, length, sym, ◌∙◌, arith}
use Rattle.rule_base.specs.Views.{element_in}
use Rattle.rule_base.proofs.FitsLemmas.{tags_agree, tags_differ}
use Rattle.rule_base.proofs.instantiation.have_tags.Goals as goal

pub returns-then-at-tags : goal.returns-then-at-tags
returns-then-at-tags c =
    let within : c.loop-at.at < length c.args.tags.now = omega (arith, c.loop-at-test.true, c.loop-at.invariant.long) in
    sym (c.loop-at.invariant.same ∙ tags_differ c.args.elements.now c.args.tags.now c.loop-at.at (element_in c.at.result) c.at.ensures within c.if-at-tags.true)

pub loop-at-preserved : goal.loop-at-preserved
loop-at-preserved c =
    let within : c.loop-at.at < length c.args.tags.now = omega (arith, c.loop-at-test.true, c.loop-at.invariant.long) in
    record {
      same = c.loop-at.invariant.same ∙ tags_agree c.args.elements.now c.args.tags.now c.loop-at.at (element_in c.at.result) c.at.ensures within c.if-at-tags.false;
      long = c.loop-at.invariant.long;
    }
