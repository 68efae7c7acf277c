-- Binding what condition elements bind that are known to accept their elements.
use Rattle.std.proofs.Common.{◌≡◌, ℕ, ◌+◌, ◌<◌, List, Bool, true, false, ◌==◌, Option, Some, None, IsSome, option_and_then, option_map, drop, get_or, length, slice_get, refl, ◌∙◌, ap, subst}
use Rattle.rule_base.specs.declared.value.Value.{Value}
use Rattle.rule_base.specs.declared.element.Element.{Element}
use Rattle.rule_base.specs.declared.condition.Test.{Test}
use Rattle.rule_base.specs.declared.condition.Cond.{Cond}
use Rattle.rule_base.specs.Chains.{only_if}
use Rattle.rule_base.specs.Bindings.{Bindings}
use Rattle.rule_base.specs.Acceptance.{accepts, after_test, after_tests}
use Rattle.rule_base.specs.ElementMatch.{after_element, matched}
use Rattle.rule_base.proofs.StepByStepLemmas.{drop_next}
use Rattle.element_tests.proofs.PlaceLemmas.{drop_at_place}

-- what gives something begins with something
first_some : {A B : Type 0} (o : Option A) (next : A → Option B) → IsSome (option_and_then next o) → IsSome o
first_some None next some = some
first_some (Some a) next some = refl

-- the test at a place holds, where those from it on do
pub holds_at : (tests : List Test) (i : ℕ) (test : Test) (b : Bindings) (values : List Value) → i < length tests → test ≡ get_or tests i test → IsSome (after_tests (drop i tests) b values) → IsSome (after_test test b values)
holds_at tests i test b values within at some =
    first_some (after_test test b values) (λ after. after_tests (drop (i + 1) tests) after values) (subst (λ ts. IsSome (after_tests ts b values)) (drop_at_place tests i test within at) some)

-- an element that is accepted passes the tests, which leave the same bindings
by_class : (cond : Cond) (e : Element) (b : Bindings) (same : Bool) → IsSome (option_and_then (λ given. after_tests cond.tests given e.values) (only_if same b)) → option_and_then (λ given. after_tests cond.tests given e.values) (only_if same b) ≡ after_tests cond.tests b e.values
by_class cond e b true some = refl
by_class cond e b false some = absurd (let wrong : ⊥ = cc in wrong)

mapped_some : {A B : Type 0} (f : A → B) (o : Option A) → IsSome (option_map f o) → IsSome o
mapped_some f None some = some
mapped_some f (Some a) some = refl

-- a positive condition element at the next element
accepts_next : (cond : Cond) (elements : List Element) (next : ℕ) (e : Element) (b : Bindings) → cond.negated ≡ false → slice_get elements next ≡ Some e → after_element cond.negated cond (drop next elements) b ≡ option_map (λ after. (drop (next + 1) elements, after)) (accepts cond b e)
accepts_next cond elements next e b positive at =
    ap (λ sign. after_element sign cond (drop next elements) b) positive ∙ ap (λ es. after_element false cond es b) (drop_next elements next e at)

pub holds_next : (cond : Cond) (elements : List Element) (next : ℕ) (e : Element) (b : Bindings) → cond.negated ≡ false → slice_get elements next ≡ Some e → IsSome (after_element cond.negated cond (drop next elements) b) → IsSome (after_tests cond.tests b e.values)
holds_next cond elements next e b positive at some =
    let accepted : IsSome (accepts cond b e) = mapped_some (λ after. (drop (next + 1) elements, after)) (accepts cond b e) (subst IsSome (accepts_next cond elements next e b positive at) some) in
    subst IsSome (by_class cond e b (cond.class == e.class) accepted) accepted

pub after_next : (cond : Cond) (elements : List Element) (next : ℕ) (e : Element) (b after : Bindings) → cond.negated ≡ false → slice_get elements next ≡ Some e → IsSome (after_element cond.negated cond (drop next elements) b) → after_tests cond.tests b e.values ≡ Some after → after_element cond.negated cond (drop next elements) b ≡ Some (drop (next + 1) elements, after)
after_next cond elements next e b after positive at some is =
    let step = accepts_next cond elements next e b positive at in
    let accepted : IsSome (accepts cond b e) = mapped_some (λ after. (drop (next + 1) elements, after)) (accepts cond b e) (subst IsSome step some) in
    step ∙ ap (option_map (λ after. (drop (next + 1) elements, after))) (by_class cond e b (cond.class == e.class) accepted ∙ is)

-- the condition element at a place, and those behind it
abbrev AfterNext : List Cond → Option (List Element × Bindings) → Option Bindings
AfterNext conds o = option_and_then (λ (after : List Element × Bindings). matched conds after.0 after.1) o

matched_at : (conds : List Cond) (i : ℕ) (cond : Cond) (elements : List Element) (b : Bindings) → i < length conds → cond ≡ get_or conds i cond → matched (drop i conds) elements b ≡ AfterNext (drop (i + 1) conds) (after_element cond.negated cond elements b)
matched_at conds i cond elements b within at = ap (λ cs. matched cs elements b) (drop_at_place conds i cond within at)

pub matched_next : (conds : List Cond) (i : ℕ) (cond : Cond) (elements left : List Element) (b after : Bindings) → i < length conds → cond ≡ get_or conds i cond → after_element cond.negated cond elements b ≡ Some (left, after) → matched (drop i conds) elements b ≡ matched (drop (i + 1) conds) left after
matched_next conds i cond elements left b after within at is = matched_at conds i cond elements b within at ∙ ap (AfterNext (drop (i + 1) conds)) is
