-- Matching condition elements one after another: what may be asked of the first, and that the others may be matched after it.
use Rattle.std.proofs.Common.{◌≡◌, ℕ, ◌<◌, List, [], ◌∷◌, ◌++◌, length, Bool, true, false, ◌==◌, Option, Some, None, option_and_then, fold, get_or, nat_eq, slice_get, slice_index, suc, zero, refl, sym, ◌∙◌, ap, subst, arith}
use Rattle.std.specs.List.{AllByRecursion, IsDistinct, flat_map}
use Rattle.std.proofs.lemmas.Bool.{eq-eqb, false≢true}
use Rattle.std.proofs.lemmas.List.{length-replicate}
use Rattle.std.proofs.lemmas.Option.{get_or_from_slice_get}
use Rattle.rule_base.specs.declared.value.Value.{Value}
use Rattle.rule_base.specs.declared.element.Element.{Element}
use Rattle.rule_base.specs.declared.condition.Test.{Test}
use Rattle.rule_base.specs.declared.condition.Test.TheVariants.{Bind, Cmp, OneOf}
use Rattle.rule_base.specs.declared.condition.Cond.{Cond}
use Rattle.rule_base.specs.declared.program.Rule.{Rule}
use Rattle.rule_base.specs.Chains.{only_if}
use Rattle.rule_base.specs.Memory.{HasSize, Memory}
use Rattle.rule_base.specs.Bindings.{Bindings, binding_of, bound, no_bindings}
use Rattle.rule_base.specs.Acceptance.{accepts, after_test, after_tests}
use Rattle.rule_base.specs.Sound.{IsSoundRule, SoundConds, SoundTests, bound_by_test, bound_variables, known_after_cond, known_after_test}
use Rattle.element_tests.specs.Asking.{BindsNew, HasPlace, HasValue, MayAsk}
use Rattle.element_tests.proofs.PassLemmas.{HasPlace-sound, IsTaken, IsTaken-after_test, known-taken, length-taken}
use Rattle.firing_core.specs.Matching.{AllBindNew, MayFilter, MayMatch}

-- what holds of each element holds of the one at a place
pub Each-place : {X : Type 0} (P : X → Type 0) (xs : List X) (i : ℕ) (x : X) → AllByRecursion P xs → i < length xs → x ≡ get_or xs i x → P x
Each-place P [] i x each within at = absurd (omega arith)
Each-place P (y ∷ xs) zero x each within at = subst P (sym at) each.0
Each-place P (y ∷ xs) (suc i) x each within at = Each-place P xs i x each.1 (omega arith) at

-- what holds of each element of two lists joined
pub Each-split : {X : Type 0} (P : X → Type 0) (xs ys : List X) → AllByRecursion P (xs ++ ys) → AllByRecursion P xs × AllByRecursion P ys
Each-split P [] ys each = (tt, each)
Each-split P (x ∷ xs) ys each = let rest = Each-split P xs ys each.1 in ((each.0, rest.0), rest.1)

-- numbers that differ
differ : (a b : ℕ) → nat_eq a b ≡ false → a ≡ b → ⊥
differ a b is same = false≢true (sym is ∙ eq-eqb a b same)

-- a variable that gets a value leaves the others as they are
pub binding_of-bound : (b : Bindings) (var u : ℕ) (v : Value) → (var ≡ u → ⊥) → binding_of (bound b var v) u ≡ binding_of b u
binding_of-bound [] var u v other = refl
binding_of-bound (x ∷ b) zero zero v other = absurd (other refl)
binding_of-bound (x ∷ b) zero (suc u) v other = refl
binding_of-bound (x ∷ b) (suc var) zero v other = refl
binding_of-bound (x ∷ b) (suc var) (suc u) v other = binding_of-bound b var u v (λ same. other (ap suc same))

-- a variable that the tests don't bind may get a value
tests_bind_new : (b : Bindings) (var : ℕ) (v : Value) (tests : List Test) → AllByRecursion (λ u. nat_eq var u ≡ false) (flat_map bound_by_test tests) → AllByRecursion (BindsNew b) tests → AllByRecursion (BindsNew (bound b var v)) tests
tests_bind_new b var v [] others new = tt
tests_bind_new b var v (Bind attr u ∷ tests) others new = (binding_of-bound b var u v (differ var u others.0) ∙ new.0, tests_bind_new b var v tests others.1 new.1)
tests_bind_new b var v (Cmp attr pred other ∷ tests) others new = (tt, tests_bind_new b var v tests others new.1)
tests_bind_new b var v (OneOf attr among ∷ tests) others new = (tt, tests_bind_new b var v tests others new.1)

conds_bind_new : (b : Bindings) (var : ℕ) (v : Value) (conds : List Cond) → AllByRecursion (λ u. nat_eq var u ≡ false) (bound_variables conds) → AllBindNew b conds → AllBindNew (bound b var v) conds
conds_bind_new b var v [] others new = tt
conds_bind_new b var v (cond ∷ conds) others new =
    let split = Each-split (λ u. nat_eq var u ≡ false) (flat_map bound_by_test cond.tests) (bound_variables conds) others in
    (tests_bind_new b var v cond.tests split.0 new.0, conds_bind_new b var v conds split.1 new.1)

-- what is left where the tests of the first condition element are distinct from those of the others
IsDistinct-after : (tests : List Test) (ns : List ℕ) → IsDistinct nat_eq (flat_map bound_by_test tests ++ ns) → IsDistinct nat_eq ns
unfolding IsDistinct
IsDistinct-after [] ns once = once
IsDistinct-after (Bind attr var ∷ tests) ns once = IsDistinct-after tests ns once.1
IsDistinct-after (Cmp attr pred other ∷ tests) ns once = IsDistinct-after tests ns once
IsDistinct-after (OneOf attr among ∷ tests) ns once = IsDistinct-after tests ns once

IsDistinct-one : (test : Test) (tests : List Test) (ns : List ℕ) → IsDistinct nat_eq (flat_map bound_by_test (test ∷ tests) ++ ns) → IsDistinct nat_eq (flat_map bound_by_test tests ++ ns)
unfolding IsDistinct
IsDistinct-one (Bind attr var) tests ns once = once.1
IsDistinct-one (Cmp attr pred other) tests ns once = once
IsDistinct-one (OneOf attr among) tests ns once = once

-- a row that tests have led to: what is known has a value, and what other condition elements bind has none
record IsReady (vars : ℕ) (known : List ℕ) (conds : List Cond) (b : Bindings) : Type 0 where
  long : length b ≡ vars
  have_values : AllByRecursion (HasValue b) known
  bind_new : AllBindNew b conds

conds_after_test : (b after : Bindings) (test : Test) (tests : List Test) (conds : List Cond) → IsTaken b after test → IsDistinct nat_eq (flat_map bound_by_test (test ∷ tests) ++ bound_variables conds) → AllBindNew b conds → AllBindNew after conds
unfolding IsDistinct
conds_after_test b after (Bind attr var) tests conds taken once new =
    let others = Each-split (λ u. nat_eq var u ≡ false) (flat_map bound_by_test tests) (bound_variables conds) once.0 in
    subst (λ c. AllBindNew c conds) (sym taken.1) (conds_bind_new b var taken.0 conds others.1 new)
conds_after_test b after (Cmp attr pred other) tests conds taken once new = subst (λ c. AllBindNew c conds) (sym taken) new
conds_after_test b after (OneOf attr among) tests conds taken once new = subst (λ c. AllBindNew c conds) (sym taken) new

-- the tests after the first
abbrev RestIsReady : ℕ → ℕ → List Cond → List Value → List Test → Bindings → Type 0
RestIsReady size vars conds values tests last = (b : Bindings) (known : List ℕ) → SoundTests size vars known tests → IsDistinct nat_eq (flat_map bound_by_test tests ++ bound_variables conds) → IsReady vars known conds b → after_tests tests b values ≡ Some last → IsReady vars (fold known_after_test known tests) conds last

by_test : (size vars : ℕ) (conds : List Cond) (values : List Value) (test : Test) (tests : List Test) (last b : Bindings) (known : List ℕ) (o : Option Bindings) → after_test test b values ≡ o → RestIsReady size vars conds values tests last → SoundTests size vars known (test ∷ tests) → IsDistinct nat_eq (flat_map bound_by_test (test ∷ tests) ++ bound_variables conds) → IsReady vars known conds b → option_and_then (λ c. after_tests tests c values) o ≡ Some last → IsReady vars (fold known_after_test known (test ∷ tests)) conds last
by_test size vars conds values test tests last b known None at rest sound once ready is = absurd (let wrong : ⊥ = cc in wrong)
by_test size vars conds values test tests last b known (Some after) at rest sound once ready is =
    let taken = IsTaken-after_test b after values test at in
    rest after (known_after_test known test) sound.1 (IsDistinct-one test tests (bound_variables conds) once) (record {
      long = length-taken b after test taken ∙ ready.long;
      have_values = known-taken size vars known b after test (sym ready.long) ready.have_values sound.0 taken;
      bind_new = conds_after_test b after test tests conds taken once ready.bind_new;
    }) is

is_ready : (size vars : ℕ) (conds : List Cond) (values : List Value) (tests : List Test) (last : Bindings) → RestIsReady size vars conds values tests last
is_ready size vars conds values [] last b known sound once ready is = let same : b ≡ last = cc in subst (IsReady vars known conds) same ready
is_ready size vars conds values (test ∷ tests) last b known sound once ready is = by_test size vars conds values test tests last b known (after_test test b values) refl (is_ready size vars conds values tests last) sound once ready is

by_class : (size vars : ℕ) (cond : Cond) (conds : List Cond) (b last : Bindings) (e : Element) (known : List ℕ) (same : Bool) → SoundTests size vars known cond.tests → IsDistinct nat_eq (bound_variables (cond ∷ conds)) → IsReady vars known conds b → option_and_then (λ given. after_tests cond.tests given e.values) (only_if same b) ≡ Some last → IsReady vars (fold known_after_test known cond.tests) conds last
by_class size vars cond conds b last e known true sound once ready is = is_ready size vars conds e.values cond.tests last b known sound once ready is
by_class size vars cond conds b last e known false sound once ready is = absurd (let wrong : ⊥ = cc in wrong)

-- the variables that sound tests bind have places
All-HasPlace-sound : (size vars : ℕ) (known : List ℕ) (tests : List Test) → SoundTests size vars known tests → AllByRecursion (HasPlace vars) tests
All-HasPlace-sound size vars known [] sound = tt
All-HasPlace-sound size vars known (test ∷ tests) sound = (HasPlace-sound size vars known test sound.0, All-HasPlace-sound size vars (known_after_test known test) tests sound.1)

-- the first condition element may be asked of an element of the memory
MayAsk-first : (cond : Cond) (conds : List Cond) (memory : Memory) (b : Bindings) (e : Element) → (may : MayMatch (cond ∷ conds) memory b) → HasSize may.sizes e → MayAsk cond b e
MayAsk-first cond conds memory b e may size = record {
  known = may.known;
  have_values = may.have_values;
  sound = λ same.
      let at : slice_get may.sizes cond.class ≡ Some (length e.values) = ap (slice_get may.sizes) same ∙ size in
      subst (λ n. SoundTests n (length b) may.known cond.tests) (get_or_from_slice_get may.sizes cond.class (length e.values) 0 at) may.sound.1;
  binds_new = may.bind_new.0;
}

All-MayAsk : (cond : Cond) (conds : List Cond) (all : Memory) (b : Bindings) → (may : MayMatch (cond ∷ conds) all b) → (memory : Memory) → AllByRecursion (HasSize may.sizes) memory → AllByRecursion (MayAsk cond b) memory
All-MayAsk cond conds all b may [] sized = tt
All-MayAsk cond conds all b may (e ∷ memory) sized = (MayAsk-first cond conds all b e may sized.0, All-MayAsk cond conds all b may memory sized.1)

pub MayFilter-first : (cond : Cond) (conds : List Cond) (memory : Memory) (b : Bindings) → MayMatch (cond ∷ conds) memory b → MayFilter cond memory b
MayFilter-first cond conds memory b may = record {
  asked = All-MayAsk cond conds memory b may memory may.sized;
  placed = All-HasPlace-sound (slice_index may.sizes cond.class) (length b) may.known cond.tests may.sound.1;
}

-- the same of two memories joined
pub MayFilter-both : (cond : Cond) (conds : List Cond) (memory more : Memory) (b : Bindings) → MayMatch (cond ∷ conds) (memory ++ more) b → MayFilter cond memory b × MayFilter cond more b
MayFilter-both cond conds memory more b may =
    let filter = MayFilter-first cond conds (memory ++ more) b may in
    let asked = Each-split (MayAsk cond b) memory more filter.asked in
    (record { asked = asked.0; placed = filter.placed }, record { asked = asked.1; placed = filter.placed })

-- after a negated condition element the others may be matched
pub MayMatch-negated : (cond : Cond) (conds : List Cond) (memory : Memory) (b : Bindings) → MayMatch (cond ∷ conds) memory b → cond.negated ≡ true → MayMatch conds memory b
MayMatch-negated cond conds memory b may negated = record {
  sizes = may.sizes;
  sized = may.sized;
  known = may.known;
  have_values = may.have_values;
  sound = subst (λ sign. SoundConds may.sizes (length b) (known_after_cond sign may.known cond.tests) conds) negated may.sound.2;
  bind_new = may.bind_new.1;
  bound_once = IsDistinct-after cond.tests (bound_variables conds) may.bound_once;
}

-- and so they may after a positive one that accepts an element
pub MayMatch-accepted : (cond : Cond) (conds : List Cond) (memory : Memory) (b after : Bindings) (e : Element) → MayMatch (cond ∷ conds) memory b → cond.negated ≡ false → accepts cond b e ≡ Some after → MayMatch conds memory after
MayMatch-accepted cond conds memory b after e may positive is =
    let first : IsReady (length b) may.known conds b = record { long = refl; have_values = may.have_values; bind_new = may.bind_new.1 } in
    let ready = by_class (slice_index may.sizes cond.class) (length b) cond conds b after e may.known (cond.class == e.class) may.sound.1 may.bound_once first is in
    let sound : SoundConds may.sizes (length b) (fold known_after_test may.known cond.tests) conds = subst (λ sign. SoundConds may.sizes (length b) (known_after_cond sign may.known cond.tests) conds) positive may.sound.2 in
    record {
      sizes = may.sizes;
      sized = may.sized;
      known = fold known_after_test may.known cond.tests;
      have_values = ready.have_values;
      sound = subst (λ n. SoundConds may.sizes n (fold known_after_test may.known cond.tests) conds) (sym ready.long) sound;
      bind_new = ready.bind_new;
      bound_once = IsDistinct-after cond.tests (bound_variables conds) may.bound_once;
    }

-- a row without values
binding_of-none : (vars var : ℕ) → binding_of (no_bindings vars) var ≡ None
binding_of-none zero var = refl
binding_of-none (suc vars) zero = refl
binding_of-none (suc vars) (suc var) = binding_of-none vars var

tests_bind_none : (vars : ℕ) (tests : List Test) → AllByRecursion (BindsNew (no_bindings vars)) tests
tests_bind_none vars [] = tt
tests_bind_none vars (Bind attr var ∷ tests) = (binding_of-none vars var, tests_bind_none vars tests)
tests_bind_none vars (Cmp attr pred other ∷ tests) = (tt, tests_bind_none vars tests)
tests_bind_none vars (OneOf attr among ∷ tests) = (tt, tests_bind_none vars tests)

conds_bind_none : (vars : ℕ) (conds : List Cond) → AllBindNew (no_bindings vars) conds
conds_bind_none vars [] = tt
conds_bind_none vars (cond ∷ conds) = (tests_bind_none vars cond.tests, conds_bind_none vars conds)

-- the condition elements of a sound rule may be matched
pub MayMatch-sound : (sizes : List ℕ) (rule : Rule) (memory : Memory) → IsSoundRule sizes rule → AllByRecursion (HasSize sizes) memory → MayMatch rule.conds memory (no_bindings rule.vars)
MayMatch-sound sizes rule memory sound sized = record {
  sizes = sizes;
  sized = sized;
  known = [];
  have_values = tt;
  sound = subst (λ n. SoundConds sizes n [] rule.conds) (sym (length-replicate rule.vars None)) sound.sound_conds;
  bind_new = conds_bind_none rule.vars rule.conds;
  bound_once = sound.bound_once;
}
