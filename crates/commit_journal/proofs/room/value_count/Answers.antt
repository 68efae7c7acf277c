-- One element more.
use Rattle.std.proofs.Common.{◌≡◌, ◌+◌, ◌∙◌, ap, arith, drop, length, rules}
use Rattle.rule_base.specs.Views.{element_in}
use Rattle.rule_base.proofs.StepByStepLemmas.{drop_next}
use Rattle.rule_base.specs.Memory.{value_count}
use Rattle.commit_journal.proofs.NumberedLemmas.{value_count-cons}
use Rattle.commit_journal.proofs.room.value_count.Goals as goal

pub loop-at-preserved : goal.loop-at-preserved
loop-at-preserved c =
    let elements = c.args.elements.now in
    let e = element_in c.at.result in
    let rest = drop (c.loop-at.at + 1) elements in
    let size = length c.at.result.values.now in
    let left : value_count (drop c.loop-at.at elements) ≡ size + value_count rest = ap value_count (drop_next elements c.loop-at.at e c.at.ensures) ∙ value_count-cons e rest in
    let sum : c.in-Some.sum ≡ c.loop-at.count + size = search rules in
    let here : c.loop-at.count + value_count (drop c.loop-at.at elements) ≡ value_count elements = c.loop-at.invariant in
    let goes_on : c.in-Some.sum + value_count rest ≡ value_count elements = omega (arith, left, sum, here) in
    goes_on
