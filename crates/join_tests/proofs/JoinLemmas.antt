-- What a condition element's tests become, taken in one after another.
use Rattle.std.proofs.Common.{◌≡◌, ℕ, ◌+◌, List, [], ◌∷◌, ◌++◌, ◌==◌, Option, Some, None, option_and_then, refl, sym, ◌∙◌, ap}
use Rattle.std.proofs.lemmas.List.Sums.{fold-append}
use Rattle.rule_base.specs.declared.value.Value.{Value}
use Rattle.rule_base.specs.declared.element.Element.{Element}
use Rattle.rule_base.specs.declared.condition.Test.{Test}
use Rattle.rule_base.specs.declared.condition.Cond.{Cond}
use Rattle.rule_base.specs.Chains.{only_if}
use Rattle.rule_base.specs.Bindings.{Bindings}
use Rattle.rule_base.specs.Acceptance.{after_test, after_tests}
use Rattle.join_tests.specs.declared.joins.Join.{Join}
use Rattle.join_tests.specs.Joining.{LooksBack, joins}
use Rattle.join_tests.specs.Sources.{AreWithin, Sources, bindings_at, sources_after_test, sources_after_tests}
use Rattle.join_tests.proofs.ReadingLemmas.{AreWithin-after_tests}
use Rattle.join_tests.specs.Compiling.{AsksMore, IsJoin}

-- one test more at the end
then_after : (tests : List Test) (t : Test) (values : List Value) (o : Option Bindings) → ((b : Bindings) → after_tests (tests ++ t ∷ []) b values ≡ option_and_then (λ after. after_test t after values) (after_tests tests b values)) →
    option_and_then (λ after. after_tests (tests ++ t ∷ []) after values) o ≡ option_and_then (λ after. after_test t after values) (option_and_then (λ after. after_tests tests after values) o)
then_after tests t values None rest = refl
then_after tests t values (Some b) rest = rest b

one_test : (o : Option Bindings) → option_and_then (λ (b : Bindings). Some b) o ≡ o
one_test None = refl
one_test (Some b) = refl

pub after_tests-push : (tests : List Test) (t : Test) (b : Bindings) (values : List Value) → after_tests (tests ++ t ∷ []) b values ≡ option_and_then (λ after. after_test t after values) (after_tests tests b values)
after_tests-push [] t b values = one_test (after_test t b values)
after_tests-push (first ∷ tests) t b values = then_after tests t values (after_test first b values) (λ after. after_tests-push tests t after values)

pub sources_after_tests-push : (number : ℕ) (before : Sources) (tests : List Test) (t : Test) → sources_after_tests number before (tests ++ t ∷ []) ≡ sources_after_test number (sources_after_tests number before tests) t
sources_after_tests-push number before tests t = fold-append (sources_after_test number) before tests (t ∷ [])

-- a condition element with no tests asks for the class alone
pub IsJoin-class : (number : ℕ) (before : Sources) (cond : Cond) (join : Join) → ((es : List Element) (e : Element) → joins join es e ≡ (cond.class == e.class)) → ((n : ℕ) → LooksBack n join) → IsJoin number before (record cond { tests = [] }) join
IsJoin-class number before cond join class back = record {
  looks_back = λ within. back number;
  asks = λ es e long. one_test (only_if (cond.class == e.class) (bindings_at before (es ++ e ∷ []))) ∙ ap (λ h. only_if h (bindings_at before (es ++ e ∷ []))) (sym (class es e));
}

-- the tests so far, and one more
pub IsJoin-push : (number : ℕ) (before : Sources) (cond : Cond) (tests : List Test) (t : Test) (join more : Join) → IsJoin number before (record cond { tests = tests }) join → AsksMore number (sources_after_tests number before tests) t join more → (AreWithin (number + 1) (sources_after_tests number before tests) → LooksBack number join → LooksBack number more) → IsJoin number before (record cond { tests = tests ++ t ∷ [] }) more
IsJoin-push number before cond tests t join more is asks_more back = record {
  looks_back = λ within. back (AreWithin-after_tests number before tests within) (is.looks_back within);
  asks = λ es e long.
      let row = es ++ e ∷ [] in
      then_after tests t e.values (only_if (cond.class == e.class) (bindings_at before row)) (λ b. after_tests-push tests t b e.values)
      ∙ ap (option_and_then (λ after. after_test t after e.values)) (is.asks es e long)
      ∙ asks_more es e long
      ∙ ap (λ s. only_if (joins more es e) (bindings_at s row)) (sym (sources_after_tests-push number before tests t));
}
