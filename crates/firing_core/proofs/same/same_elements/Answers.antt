-- Items that differ end the comparison, and items that are the same are passed over.
use lib.Pointwise.{pointwise}
use Rattle.std.proofs.Common.{◌+◌, ◌&&◌, drop, ap, ◌∙◌, sym}
use Rattle.rule_base.specs.Views.{element_in}
use Rattle.firing_core.proofs.SameLemmas.{pointwise-next}
use Rattle.rule_base.specs.Memory.{same_element}
use Rattle.firing_core.proofs.same.same_elements.Goals as goal

pub returns-then-not-same_element : goal.returns-then-not-same_element
returns-then-not-same_element c =
    let rest = pointwise same_element (drop (c.loop-at.at + 1) c.args.some.now) (drop (c.loop-at.at + 1) c.args.others.now) in
    ap (λ b. b && rest) (sym c.if-not-same_element.true ∙ c.same_element.ensures)
    ∙ sym (pointwise-next same_element c.args.some.now c.args.others.now c.loop-at.at (element_in c.at.result) (element_in c.at-in-loop-at.result) c.at.ensures c.at-in-loop-at.ensures)
    ∙ c.loop-at.invariant

pub loop-at-preserved : goal.loop-at-preserved
loop-at-preserved c =
    let rest = pointwise same_element (drop (c.loop-at.at + 1) c.args.some.now) (drop (c.loop-at.at + 1) c.args.others.now) in
    ap (λ b. b && rest) (sym c.if-not-same_element.false ∙ c.same_element.ensures)
    ∙ sym (pointwise-next same_element c.args.some.now c.args.others.now c.loop-at.at (element_in c.at.result) (element_in c.at-in-loop-at.result) c.at.ensures c.at-in-loop-at.ensures)
    ∙ c.loop-at.invariant
