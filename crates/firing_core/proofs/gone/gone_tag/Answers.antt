-- An element that isn't there ends the search, and one that is there is passed over.
use Rattle.std.proofs.Common.{◌+◌, Some, ap, cond, ◌∙◌, sym, drop}
use Rattle.rule_base.specs.Views.{element_in}
use Rattle.firing_core.specs.Refusals.{gone_tag}
use Rattle.firing_core.specs.Store.{memory_in}
use Rattle.firing_core.proofs.GoneLemmas.{gone_tag-next}
use Rattle.firing_core.proofs.gone.gone_tag.Goals as goal

pub returns-then-not-is_there : goal.returns-then-not-is_there
returns-then-not-is_there c =
    let e = element_in c.at-element.result in
    let memory = memory_in c.args.store.now in
    let rest = gone_tag memory (drop (c.loop-at.at + 1) c.args.elements.now) in
    sym (ap (λ b. cond b rest (Some e.tag)) c.if-not-is_there.true)
    ∙ sym (gone_tag-next memory c.args.elements.now c.loop-at.at e c.is_there.result c.at-element.ensures c.is_there.ensures)
    ∙ c.loop-at.invariant

pub loop-at-preserved : goal.loop-at-preserved
loop-at-preserved c =
    let e = element_in c.at-element.result in
    let memory = memory_in c.args.store.now in
    let rest = gone_tag memory (drop (c.loop-at.at + 1) c.args.elements.now) in
    sym (ap (λ b. cond b rest (Some e.tag)) c.if-not-is_there.false)
    ∙ sym (gone_tag-next memory c.args.elements.now c.loop-at.at e c.is_there.result c.at-element.ensures c.is_there.ensures)
    ∙ c.loop-at.invariant
