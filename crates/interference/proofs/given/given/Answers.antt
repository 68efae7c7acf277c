-- The first condition element gives the value, or the rest does.
use Rattle.std.proofs.Common.{◌≡◌, ◌+◌, ◌<◌, ◌∷◌, None, Some, drop, length, sym, ◌∙◌, ap, arith}
use Rattle.rule_base.specs.Views.{element_in}
use Rattle.rule_base.proofs.StepByStepLemmas.{drop_next}
use Rattle.interference.specs.Given.{given}
use Rattle.interference.specs.Finding.{first_binding}
use Rattle.interference.proofs.FindingLemmas.{drop_item, given-here, given-later, present}
use Rattle.interference.proofs.given.given.Goals as goal

pub returns-in-Some : goal.returns-in-Some
returns-in-Some c =
    let var = c.args.var in
    let next = drop_item c.args.conds.now c.loop-cond.cond-index c.cond-item.result c.loop-cond-test.true c.cond-item.is in
    let conds = drop (c.loop-cond.cond-index + 1) c.args.conds.now in
    let next_element = drop_next c.args.elements.now c.loop-cond.at (element_in c.at.result) c.at.ensures in
    let elements = drop (c.loop-cond.at + 1) c.args.elements.now in
    let binds : first_binding var c.cond-item.result.tests ≡ Some c.in-Some.attr = sym (c.first_binding.ensures ∙ ap (first_binding var) c.as_slice.ensures) ∙ c.in-Some.is in
    sym (c.loop-cond.invariant.same ∙ ap (λ cs. given cs (drop c.loop-cond.at c.args.elements.now) var) next ∙ ap (λ es. given (c.cond-item.result ∷ conds) es var) next_element
    ∙ given-here c.cond-item.result conds (element_in c.at.result) elements var c.in-Some.attr c.if-cond.false binds ∙ sym c.value_at.ensures)

pub loop-cond-preserved : goal.loop-cond-preserved
loop-cond-preserved c =
    let var = c.args.var in
    let at = c.loop-cond.at in
    let within : at < length c.args.elements.now = omega (arith, c.if-at-len.false, c.len.ensures) in
    let element = present c.args.elements.now at within in
    let next = drop_item c.args.conds.now c.loop-cond.cond-index c.cond-item.result c.loop-cond-test.true c.cond-item.is in
    let conds = drop (c.loop-cond.cond-index + 1) c.args.conds.now in
    let next_element = drop_next c.args.elements.now at element.0 element.1 in
    let elements = drop (at + 1) c.args.elements.now in
    let none : first_binding var c.cond-item.result.tests ≡ None = sym (c.first_binding.ensures ∙ ap (first_binding var) c.as_slice.ensures) ∙ c.in_default.is in
    record {
      same = c.loop-cond.invariant.same ∙ ap (λ cs. given cs (drop at c.args.elements.now) var) next ∙ ap (λ es. given (c.cond-item.result ∷ conds) es var) next_element
          ∙ given-later c.cond-item.result conds element.0 elements var c.if-cond.false none;
      within = omega (arith, within);
    }
