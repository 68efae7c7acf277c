-- No tests, and one more.
use Rattle.std.proofs.Common.{◌≡◌, ◌+◌, [], ◌∷◌, ◌++◌, rules, get_or, take, refl, ap, subst, sym, ◌∙◌}
use Rattle.element_tests.proofs.PlaceLemmas.{take_to_place}
use Rattle.join_tests.specs.Joining.{LooksBack}
use Rattle.join_tests.specs.Sources.{AreWithin, sources_after_test, sources_after_tests}
use Rattle.join_tests.specs.Compiling.{AsksMore, IsJoin}
use Rattle.join_tests.proofs.JoinLemmas.{IsJoin-class, IsJoin-push, sources_after_tests-push}
use Rattle.join_tests.proofs.compile.join_of.Goals as goal

pub loop-test-init : goal.loop-test-init
loop-test-init c = record {
  join_is = IsJoin-class c.args.number c.args.sources.now c.args.cond.now c.new-join.result c.new-join.ensures.asks c.new-join.ensures.back;
  sources_are = refl;
}

pub loop-test-preserved : goal.loop-test-preserved
loop-test-preserved c =
    let number = c.args.number in
    let before = c.args.sources.now in
    let cond = c.args.cond.now in
    let i = c.loop-test.test-index in
    let t = c.test-item.result in
    let so_far = take i cond.tests in
    let more : take (i + 1) cond.tests ≡ so_far ++ t ∷ [] = take_to_place cond.tests i t (search rules) (c.test-item.is ∙ ap (λ ts. get_or ts i t) c.as_slice-test-items.ensures) in
    let sources = c.loop-test.invariant.sources_are in
    let asks : AsksMore number (sources_after_tests number before so_far) t c.loop-test.join c.add_test.new.join = subst (λ s. AsksMore number s t c.loop-test.join c.add_test.new.join) sources c.in_ok-add_test.ensures.asks in
    let back : AreWithin (number + 1) (sources_after_tests number before so_far) → LooksBack number c.loop-test.join → LooksBack number c.add_test.new.join =
    subst (λ s. AreWithin (number + 1) s → LooksBack number c.loop-test.join → LooksBack number c.add_test.new.join) sources c.in_ok-add_test.ensures.back in
    record {
      join_is = subst (λ tests. IsJoin number before (record cond { tests = tests }) c.add_test.new.join) (sym more) (IsJoin-push number before cond so_far t c.loop-test.join c.add_test.new.join c.loop-test.invariant.join_is asks back);
      sources_are = c.bind.ensures ∙ ap (λ s. sources_after_test number s t) sources ∙ sym (sources_after_tests-push number before so_far t) ∙ ap (sources_after_tests number before) (sym more);
    }
