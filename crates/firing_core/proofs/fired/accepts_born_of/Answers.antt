-- An element is accepted, and what it bound is taken away again; or it is passed over.
use Rattle.std.proofs.Common.{◌≡◌, Some, None, sym, ◌∙◌, subst}
use Rattle.rule_base.specs.Acceptance.{accepts}
use Rattle.rule_base.specs.Views.{element_in}
use Rattle.rule_base.proofs.EachLemmas.{Each-slice_get}
use Rattle.commit_journal.specs.EntryViews.{born_of}
use Rattle.element_tests.specs.Asking.{MayAsk}
use Rattle.firing_core.proofs.AcceptanceLemmas.{accepts_some-here, accepts_some-passed}
use Rattle.firing_core.proofs.fired.accepts_born_of.Goals as goal

pub returns-then-accepts-clause-found : goal.returns-then-accepts-clause-found
returns-then-accepts-clause-found c =
    let accepted = subst (λ b. accepts c.args.cond.now b (element_in c.born.result) ≡ Some c.accepts.new.binds) c.loop-number.invariant.kept c.if-accepts.ensures.accepted in
    sym (accepts_some-here c.args.cond.now c.args.binds.now c.accepts.new.binds (born_of c.args.entry) c.loop-number.number (element_in c.born.result) c.born.ensures accepted)

pub returns-then-accepts-clause-kept : goal.returns-then-accepts-clause-kept
returns-then-accepts-clause-kept c =
    let e = element_in c.born.result in
    let asked = Each-slice_get (MayAsk c.args.cond.now c.args.binds.now) (born_of c.args.entry) c.loop-number.number e c.requires.asked c.born.ensures in
    let accepted = subst (λ b. accepts c.args.cond.now b e ≡ Some c.accepts.new.binds) c.loop-number.invariant.kept c.if-accepts.ensures.accepted in
    c.unbind.ensures.undone c.args.binds.now e asked accepted

pub loop-number-preserved : goal.loop-number-preserved
loop-number-preserved c =
    let e = element_in c.born.result in
    let refused = subst (λ b. accepts c.args.cond.now b e ≡ None) c.loop-number.invariant.kept c.if-accepts.ensures.refused in
    record {
      none = accepts_some-passed c.args.cond.now c.args.binds.now (born_of c.args.entry) c.loop-number.number e c.born.ensures refused c.loop-number.invariant.none;
      kept = c.if-accepts.ensures.kept ∙ c.loop-number.invariant.kept;
    }
