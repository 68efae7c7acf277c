-- The tests of a condition element that is checked are sound: one test at a time.
use Rattle.std.proofs.Common.{◌≡◌, ℕ, ◌+◌, ◌≤◌, ◌<◌, Bool, true, false, List, [], ◌∷◌, ◌++◌, Option, None, Some, Ok, length, fold, nat_eq, refl, sym, ap, ◌∙◌, subst, arith, append_assoc, append-nil}
use Rattle.std.specs.List.{AllByRecursion, IsDistinct, flat_map}
use Rattle.std.specs.Cmp.{nat_eq_equiv}
use Rattle.std.proofs.lemmas.Grind.{flat_map-append, fold-append}
use Rattle.std.proofs.lemmas.Map.Keys.{IsDistinct-push}
use Rattle.rule_base.specs.declared.condition.Pred.TheVariants.{Eq}
use Rattle.rule_base.specs.declared.condition.Arg.TheVariants as arg
use Rattle.rule_base.specs.declared.condition.Test.{Test}
use Rattle.rule_base.specs.declared.condition.Test.TheVariants as test
use Rattle.rule_base.specs.Sound.{SoundTest, SoundTests, known_after_test, bound_by_test}
use Rattle.ops_reader.specs.declared.form.FormArg.TheVariants as written
use Rattle.ops_reader.specs.declared.form.Simple.{Simple}
use Rattle.ops_reader.specs.declared.form.Simple.TheVariants as simple
use Rattle.rule_checker.specs.declared.refusal.CheckKind.TheVariants.{UnknownAttribute, Unbound}
use Rattle.rule_checker.specs.declared.scope.Scope.{Scope}
use Rattle.rule_checker.specs.declared.condition_tests.TestsSoFar.{TestsSoFar}
use Rattle.rule_checker.specs.Names.{number_in}
use Rattle.rule_checker.specs.Walk.{after_each}
use Rattle.rule_checker.specs.Classes.{has_attribute}
use Rattle.rule_checker.specs.Scope.{variable_of, bound_to_its_left, with_variable}
use Rattle.rule_checker.specs.ConditionTests.{with_test, with_use, with_simple, with_tests}
use Rattle.rule_checker.proofs.ListLemmas.{all_push, all_map, none_equal}
use Rattle.rule_checker.proofs.NumberLemmas.{number_in-within}
use Rattle.rule_checker.proofs.ResultLemmas.{passed, found, after_each-keeps}
use Rattle.rule_checker.proofs.ScopeLemmas.{IsScope, variable_of-known, with_variable-known, with_variable-vars}

-- what holds of the tests of a condition element so far: before its first test the scope was this one, `earlier` are the
-- variables that earlier condition elements bind, and `known` those that had a value
pub record AreTests (size : ℕ) (negated : Bool) (before : Scope) (earlier known : List ℕ) (done : TestsSoFar) : Type 0 where
  pub grown : before.vars ≤ done.scope.vars
  pub kept : negated ≡ true → done.scope.bound ≡ before.bound
  pub bound_once : IsDistinct nat_eq (earlier ++ flat_map bound_by_test done.tests)
  pub numbered : AllByRecursion (λ n. n < done.scope.vars) (earlier ++ flat_map bound_by_test done.tests)
  pub scope : IsScope (fold known_after_test known done.tests) done.scope
  pub sound : (vars : ℕ) → done.scope.vars ≤ vars → SoundTests size vars known done.tests

-- one test more at the end
SoundTests-push : (size vars : ℕ) (known : List ℕ) (ts : List Test) (t : Test) → SoundTests size vars known ts → SoundTest size vars (fold known_after_test known ts) t → SoundTests size vars known (ts ++ t ∷ [])
SoundTests-push size vars known [] t h last = (last, tt)
SoundTests-push size vars known (first ∷ ts) t h last = (h.0, SoundTests-push size vars (known_after_test known first) ts t h.1 last)

-- a test that binds nothing
pub record IsPlain (t : Test) : Type 0 where
  pub none : bound_by_test t ≡ []
  pub same : (known : List ℕ) → known_after_test known t ≡ known

plain-keeps : (size : ℕ) (negated : Bool) (before : Scope) (earlier known : List ℕ) (done : TestsSoFar) (t : Test) → AreTests size negated before earlier known done → IsPlain t
    → ((vars : ℕ) → done.scope.vars ≤ vars → SoundTest size vars (fold known_after_test known done.tests) t) → AreTests size negated before earlier known (with_test done t)
plain-keeps size negated before earlier known done t h plain sound =
    let none : flat_map bound_by_test (done.tests ++ t ∷ []) ≡ flat_map bound_by_test done.tests =
    flat_map-append bound_by_test done.tests (t ∷ []) ∙ ap (λ (ns : List ℕ). flat_map bound_by_test done.tests ++ (ns ++ [])) plain.none ∙ append-nil (flat_map bound_by_test done.tests) in
    let same : fold known_after_test known (done.tests ++ t ∷ []) ≡ fold known_after_test known done.tests = fold-append known_after_test known done.tests (t ∷ []) ∙ plain.same (fold known_after_test known done.tests) in
    record {
      grown = h.grown;
      kept = h.kept;
      bound_once = rw none h.bound_once;
      numbered = rw none h.numbered;
      scope = subst (λ (ns : List ℕ). IsScope ns done.scope) (sym same) h.scope;
      sound = λ vars room. SoundTests-push size vars known done.tests t (h.sound vars room) (sound vars room);
    }

-- a first use binds the next variable
binding-keeps : (size : ℕ) (negated : Bool) (before : Scope) (earlier known : List ℕ) (done : TestsSoFar) (attr : ℕ) (scope : Scope) → AreTests size negated before earlier known done → attr < size
    → scope.vars ≡ done.scope.vars + 1 → IsScope (done.scope.vars ∷ fold known_after_test known done.tests) scope → (negated ≡ true → scope.bound ≡ before.bound)
    → AreTests size negated before earlier known (record { tests = done.tests ++ test.Bind attr done.scope.vars ∷ []; scope = scope })
binding-keeps size negated before earlier known done attr scope h within longer known_in keeps =
    let var = done.scope.vars in
    let t = test.Bind attr var in
    let bound = earlier ++ flat_map bound_by_test done.tests in
    let one_more : earlier ++ flat_map bound_by_test (done.tests ++ t ∷ []) ≡ bound ++ var ∷ [] =
    ap (λ (ns : List ℕ). earlier ++ ns) (flat_map-append bound_by_test done.tests (t ∷ [])) ∙ sym (append_assoc earlier (flat_map bound_by_test done.tests) (var ∷ [])) in
    let now : fold known_after_test known (done.tests ++ t ∷ []) ≡ var ∷ fold known_after_test known done.tests = fold-append known_after_test known done.tests (t ∷ []) in
    record {
      grown = omega (arith, h.grown);
      kept = keeps;
      bound_once = rw one_more (IsDistinct-push nat_eq_equiv bound var h.bound_once (none_equal bound var h.numbered));
      numbered = rw (one_more, longer) (all_push (λ n. n < var + 1) bound var (all_map (λ n. n < var) (λ n. n < var + 1) (λ n lt. omega arith) bound h.numbered) (omega arith));
      scope = subst (λ (ns : List ℕ). IsScope ns scope) (sym now) known_in;
      sound = λ vars room.
          let room' : var + 1 ≤ vars = subst (λ (n : ℕ). n ≤ vars) longer room in
          SoundTests-push size vars known done.tests t (h.sound vars (omega arith)) (within, omega arith);
    }

-- a variable of a negated condition element leaves those outside it
stays : (negated : Bool) (scope : Scope) (name : ℕ) → negated ≡ true → (with_variable negated scope name).bound ≡ scope.bound
stays true scope name is = refl
stays false scope name is = absurd (cc)

-- a use of a variable
with_use-keeps : (size : ℕ) (negated : Bool) (before : Scope) (earlier known : List ℕ) (done : TestsSoFar) (attr name : ℕ) (o : Option ℕ) → AreTests size negated before earlier known done → attr < size
    → variable_of done.scope name ≡ o → AreTests size negated before earlier known (with_use negated attr done name o)
with_use-keeps size negated before earlier known done attr name None h within e =
    binding-keeps size negated before earlier known done attr (with_variable negated done.scope name) h within (with_variable-vars negated done.scope name)
    (with_variable-known negated (fold known_after_test known done.tests) done.scope name h.scope) (λ is. stays negated done.scope name is ∙ h.kept is)
with_use-keeps size negated before earlier known done attr name (Some var) h within e =
    let is = variable_of-known (fold known_after_test known done.tests) done.scope name var h.scope e in
    plain-keeps size negated before earlier known done (test.Cmp attr Eq (arg.Var var)) h (record { none = refl; same = λ ns. refl }) (λ vars room. (within, (omega (arith, is.0), is.1)))

-- a test of an attribute of the class
with_simple-keeps : (size : ℕ) (negated : Bool) (before : Scope) (earlier known : List ℕ) (attr : ℕ) → attr < size → (done : TestsSoFar) (s : Simple) (next : TestsSoFar)
    → AreTests size negated before earlier known done → with_simple negated attr done s ≡ Ok next → AreTests size negated before earlier known next
with_simple-keeps size negated before earlier known attr within done (simple.Plain (written.Con value)) next h e =
    let same : with_test done (test.Cmp attr Eq (arg.Con value)) ≡ next = cc in
    subst (AreTests size negated before earlier known) same (plain-keeps size negated before earlier known done (test.Cmp attr Eq (arg.Con value)) h (record { none = refl; same = λ ns. refl }) (λ vars room. (within, tt)))
with_simple-keeps size negated before earlier known attr within done (simple.Plain (written.Name name)) next h e =
    let same : with_use negated attr done name (variable_of done.scope name) ≡ next = cc in
    subst (AreTests size negated before earlier known) same (with_use-keeps size negated before earlier known done attr name (variable_of done.scope name) h within refl)
with_simple-keeps size negated before earlier known attr within done (simple.Cmp pred (written.Con value)) next h e =
    let same : with_test done (test.Cmp attr pred (arg.Con value)) ≡ next = cc in
    subst (AreTests size negated before earlier known) same (plain-keeps size negated before earlier known done (test.Cmp attr pred (arg.Con value)) h (record { none = refl; same = λ ns. refl }) (λ vars room. (within, tt)))
with_simple-keeps size negated before earlier known attr within done (simple.Cmp pred (written.Name name)) next h e =
    let w = passed (bound_to_its_left done.scope name) (λ var. Ok (with_test done (test.Cmp attr pred (arg.Var var)))) next e in
    let is = variable_of-known (fold known_after_test known done.tests) done.scope name w.0 h.scope (found (variable_of done.scope name) Unbound w.0 w.1) in
    let same : with_test done (test.Cmp attr pred (arg.Var w.0)) ≡ next = let last = w.2 in cc in
    subst (AreTests size negated before earlier known) same
    (plain-keeps size negated before earlier known done (test.Cmp attr pred (arg.Var w.0)) h (record { none = refl; same = λ ns. refl }) (λ vars room. (within, (omega (arith, is.0), is.1))))
with_simple-keeps size negated before earlier known attr within done (simple.OneOf among) next h e =
    let same : with_test done (test.OneOf attr among) ≡ next = cc in
    subst (AreTests size negated before earlier known) same (plain-keeps size negated before earlier known done (test.OneOf attr among) h (record { none = refl; same = λ ns. refl }) (λ vars room. within))

-- the tests of an attribute
pub with_tests-keeps : (attrs : List ℕ) (negated : Bool) (before : Scope) (earlier known : List ℕ) (done : TestsSoFar) (w : ℕ × List Simple) (next : TestsSoFar)
    → AreTests (length attrs) negated before earlier known done → with_tests negated attrs done w ≡ Ok next → AreTests (length attrs) negated before earlier known next
with_tests-keeps attrs negated before earlier known done w next h e =
    let a = passed (has_attribute attrs w.0) (λ attr. after_each (with_simple negated attr) done w.1) next e in
    let within = number_in-within attrs w.0 a.0 (found (number_in attrs w.0) UnknownAttribute a.0 a.1) in
    after_each-keeps (AreTests (length attrs) negated before earlier known) (with_simple negated a.0) (with_simple-keeps (length attrs) negated before earlier known a.0 within) done w.1 next h a.2
