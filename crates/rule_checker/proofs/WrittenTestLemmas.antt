-- The tests that are made of written ones ask what those ask: one test at a time, and then tests in a row.
use Rattle.std.proofs.Common.{◌≡◌, ℕ, ◌+◌, ◌≤◌, ◌<◌, Bool, true, false, List, [], ◌∷◌, ◌++◌, Option, None, Some, option_and_then, Ok, length, slice_get, get_or, refl, sym, ap, ◌∙◌, subst, arith, append_assoc, append-nil, length-set}
use Rattle.std.specs.List.{list_any, zip}
use Rattle.std.proofs.lemmas.Option.{slice_get-get_or}
use Rattle.rule_base.specs.declared.value.Value.{Value}
use Rattle.rule_base.specs.declared.condition.Pred.TheVariants.{Eq}
use Rattle.rule_base.specs.declared.condition.Arg.TheVariants as arg
use Rattle.rule_base.specs.declared.condition.Test.{Test}
use Rattle.rule_base.specs.declared.condition.Test.TheVariants as test
use Rattle.rule_base.specs.Chains.{only_if}
use Rattle.rule_base.specs.Value.{nil, same_value}
use Rattle.rule_base.specs.Predicate.{holds}
use Rattle.rule_base.specs.Bindings.{Bindings, bound}
use Rattle.rule_base.specs.Acceptance.{after_test, after_tests}
use Rattle.ops_reader.specs.declared.form.FormArg.TheVariants as written
use Rattle.ops_reader.specs.declared.form.Simple.{Simple}
use Rattle.ops_reader.specs.declared.form.Simple.TheVariants as simple
use Rattle.rule_checker.specs.declared.refusal.CheckKind.TheVariants.{UnknownAttribute, Unbound}
use Rattle.rule_checker.specs.declared.scope.Scope.{Scope}
use Rattle.rule_checker.specs.declared.condition_tests.TestsSoFar.{TestsSoFar}
use Rattle.rule_checker.specs.Names.{number_in}
use Rattle.rule_checker.specs.Walk.{after_each}
use Rattle.rule_checker.specs.Classes.{has_attribute}
use Rattle.rule_checker.specs.Scope.{variable_of, bound_to_its_left, with_variable}
use Rattle.rule_checker.specs.ConditionTests.{with_test, with_use, with_simple, with_tests}
use Rattle.rule_checker.specs.NamedBindings.{NamedValues, value_named, SayTheSame}
use Rattle.rule_checker.specs.WrittenTests.{after_use, after_written_test, after_braces}
use Rattle.rule_checker.specs.WrittenConditions.{after_attribute, after_attributes}
use Rattle.rule_checker.proofs.NumberLemmas.{number_in-within}
use Rattle.rule_checker.proofs.ResultLemmas.{passed, found, same_ok}
use Rattle.rule_checker.proofs.ScopeLemmas.{with_variable-vars}
use Rattle.rule_checker.proofs.NamedLemmas.{value_named-zip, IsNumbered, IsNumbered-more, SayTheSame-naming, value-known, value-unknown}

-- both are none, or both are bindings that say the same in this scope, those by number for so many variables
abbrev pub Agrees : Scope → ℕ → Option Bindings → Option NamedValues → Type 0
Agrees scope vars None None = Unit {0}
Agrees scope vars None (Some named) = ⊥
Agrees scope vars (Some bindings) None = ⊥
Agrees scope vars (Some bindings) (Some named) = (length bindings ≡ vars) × SayTheSame (variable_of scope) bindings named

-- from some tests to more of them: these tests are added, and they ask of an element's values what is written
pub record Goes (vars : ℕ) (negated : Bool) (values : List Value) (done next : TestsSoFar) (asks : NamedValues → Option NamedValues) : Type 0 where
  pub tests : List Test
  pub more : next.tests ≡ done.tests ++ tests
  pub numbered : IsNumbered next.scope
  pub grown : done.scope.vars ≤ next.scope.vars
  -- a negated condition element leaves the variables outside it, and another one has none of its own
  pub outside : negated ≡ true → next.scope.bound ≡ done.scope.bound
  pub inside : negated ≡ false → next.scope.local ≡ done.scope.local
  pub agree : (bindings : Bindings) (named : NamedValues) → length bindings ≡ vars → next.scope.vars ≤ vars → SayTheSame (variable_of done.scope) bindings named
      → Agrees next.scope vars (after_tests tests bindings values) (asks named)

-- tests in a row
after_tests-append : (xs ys : List Test) (bindings : Bindings) (values : List Value) → after_tests (xs ++ ys) bindings values ≡ option_and_then (λ after. after_tests ys after values) (after_tests xs bindings values)
after_tests-append [] ys bindings values = refl
after_tests-append (x ∷ xs) ys bindings values = by (after_test x bindings values) (λ after. after_tests-append xs ys after values)
  where
    by : (o : Option Bindings) → ((after : Bindings) → after_tests (xs ++ ys) after values ≡ option_and_then (λ last. after_tests ys last values) (after_tests xs after values))
        → option_and_then (λ after. after_tests (xs ++ ys) after values) o ≡ option_and_then (λ last. after_tests ys last values) (option_and_then (λ after. after_tests xs after values) o)
    by None rest = refl
    by (Some after) rest = rest after

goes-nowhere : (vars : ℕ) (negated : Bool) (values : List Value) (done : TestsSoFar) → IsNumbered done.scope → Goes vars negated values done done (λ named. Some named)
goes-nowhere vars negated values done numbered = record {
  tests = [];
  more = sym (append-nil done.tests);
  numbered = numbered;
  grown = omega arith;
  outside = λ is. refl;
  inside = λ is. refl;
  agree = λ bindings named size room same. (size, same);
}

-- one walk after another
agree-then : (mid last : Scope) (vars : ℕ) (o : Option Bindings) (w : Option NamedValues) (f : Bindings → Option Bindings) (g : NamedValues → Option NamedValues)
    → ((bindings : Bindings) (named : NamedValues) → length bindings ≡ vars → SayTheSame (variable_of mid) bindings named → Agrees last vars (f bindings) (g named))
    → Agrees mid vars o w → Agrees last vars (option_and_then f o) (option_and_then g w)
agree-then mid last vars None None f g next h = tt
agree-then mid last vars None (Some named) f g next h = absurd h
agree-then mid last vars (Some bindings) None f g next h = absurd h
agree-then mid last vars (Some bindings) (Some named) f g next h = next bindings named h.0 h.1

goes-on : (vars : ℕ) (negated : Bool) (values : List Value) (done mid next : TestsSoFar) (f g : NamedValues → Option NamedValues) → Goes vars negated values done mid f → Goes vars negated values mid next g
    → Goes vars negated values done next (λ named. option_and_then g (f named))
goes-on vars negated values done mid next f g first second = record {
  tests = first.tests ++ second.tests;
  more = second.more ∙ ap (λ ts. ts ++ second.tests) first.more ∙ append_assoc done.tests first.tests second.tests;
  numbered = second.numbered;
  grown = omega (arith, first.grown, second.grown);
  outside = λ is. second.outside is ∙ first.outside is;
  inside = λ is. second.inside is ∙ first.inside is;
  agree = λ bindings named size room same.
      subst (λ o. Agrees next.scope vars o (option_and_then g (f named))) (sym (after_tests-append first.tests second.tests bindings values))
      (agree-then mid.scope next.scope vars (after_tests first.tests bindings values) (f named) (λ after. after_tests second.tests after values) g
      (λ b n s h. second.agree b n s room h) (first.agree bindings named size (omega (arith, second.grown)) same));
}

-- a test that binds nothing: it asks for the same, by number and by name
if-both : (scope : Scope) (vars : ℕ) (bindings : Bindings) (named : NamedValues) (b : Bool) → length bindings ≡ vars → SayTheSame (variable_of scope) bindings named
    → Agrees scope vars (option_and_then (λ after. Some after) (only_if b bindings)) (only_if b named)
if-both scope vars bindings named true size same = (size, same)
if-both scope vars bindings named false size same = tt

-- what a test comes to
pub record ComesTo (values : List Value) (t : Test) (asks : NamedValues → Option NamedValues) (bindings : Bindings) (named : NamedValues) : Type 0 where
  pub passes : Bool
  pub by_number : after_test t bindings values ≡ only_if passes bindings
  pub by_name : asks named ≡ only_if passes named

plain-goes : (vars : ℕ) (negated : Bool) (values : List Value) (done : TestsSoFar) (t : Test) (asks : NamedValues → Option NamedValues) → IsNumbered done.scope
    → ((bindings : Bindings) (named : NamedValues) → SayTheSame (variable_of done.scope) bindings named → ComesTo values t asks bindings named)
    → Goes vars negated values done (with_test done t) asks
plain-goes vars negated values done t asks numbered comes = record {
  tests = t ∷ [];
  more = refl;
  numbered = numbered;
  grown = omega arith;
  outside = λ is. refl;
  inside = λ is. refl;
  agree = λ bindings named size room same.
      let c = comes bindings named same in
      let both = if-both done.scope vars bindings named c.passes size same in
      let by_number : Agrees done.scope vars (option_and_then (λ after. Some after) (after_test t bindings values)) (only_if c.passes named) =
      subst (λ (o : Option Bindings). Agrees done.scope vars (option_and_then (λ after. Some after) o) (only_if c.passes named)) (sym c.by_number) both in
      subst (λ (o : Option NamedValues). Agrees done.scope vars (option_and_then (λ after. Some after) (after_test t bindings values)) o) (sym c.by_name) by_number;
}

-- a first use
outside-kept : (negated : Bool) (scope : Scope) (name : ℕ) → negated ≡ true → (with_variable negated scope name).bound ≡ scope.bound
outside-kept true scope name is = refl
outside-kept false scope name is = absurd (cc)

inside-kept : (negated : Bool) (scope : Scope) (name : ℕ) → negated ≡ false → (with_variable negated scope name).local ≡ scope.local
inside-kept true scope name is = absurd (cc)
inside-kept false scope name is = refl

use-goes : (vars : ℕ) (negated : Bool) (values : List Value) (done : TestsSoFar) (attr name : ℕ) (v : Value) (o : Option ℕ) → IsNumbered done.scope → slice_get values attr ≡ Some v → variable_of done.scope name ≡ o
    → Goes vars negated values done (with_use negated attr done name o) (λ named. after_use name (value_named named name) named v)
use-goes vars negated values done attr name v None numbered at is = record {
  tests = test.Bind attr done.scope.vars ∷ [];
  more = refl;
  numbered = IsNumbered-more negated done.scope name (done.scope.vars + 1) (with_variable-vars negated done.scope name) refl is numbered;
  grown = omega (arith, with_variable-vars negated done.scope name);
  outside = outside-kept negated done.scope name;
  inside = inside-kept negated done.scope name;
  agree = λ bindings named size room same.
      let none = value-unknown (variable_of done.scope) bindings named name same is in
      let within : done.scope.vars < length bindings = omega (arith, size, room, with_variable-vars negated done.scope name) in
      let now = SayTheSame-naming negated done.scope name bindings named v is numbered within same in
      let long : length (bound bindings done.scope.vars v) ≡ vars = length-set bindings done.scope.vars (Some v) ∙ size in
      rw (at, none) (long, now);
}
use-goes vars negated values done attr name v (Some var) numbered at is =
    plain-goes vars negated values done (test.Cmp attr Eq (arg.Var var)) (λ named. after_use name (value_named named name) named v) numbered
    (λ bindings named same.
    let h = value-known (variable_of done.scope) bindings named name var same is in
    record { passes = same_value v h.value; by_number = rw (at, h.by_number) refl; by_name = rw h.by_name refl })

-- one written test
simple-goes : (vars : ℕ) (negated : Bool) (values : List Value) (attr : ℕ) (v : Value) → slice_get values attr ≡ Some v → (done : TestsSoFar) (s : Simple) (next : TestsSoFar) → IsNumbered done.scope
    → with_simple negated attr done s ≡ Ok next → Goes vars negated values done next (λ named. after_written_test s named v)
simple-goes vars negated values attr v at done (simple.Plain (written.Con other)) next numbered e =
    subst (λ (t : TestsSoFar). Goes vars negated values done t (λ named. only_if (same_value v other) named)) (same_ok e)
    (plain-goes vars negated values done (test.Cmp attr Eq (arg.Con other)) (λ named. only_if (same_value v other) named) numbered
    (λ bindings named same. record { passes = same_value v other; by_number = rw at refl; by_name = refl }))
simple-goes vars negated values attr v at done (simple.Plain (written.Name name)) next numbered e =
    subst (λ (t : TestsSoFar). Goes vars negated values done t (λ named. after_use name (value_named named name) named v)) (same_ok e)
    (use-goes vars negated values done attr name v (variable_of done.scope name) numbered at refl)
simple-goes vars negated values attr v at done (simple.Cmp pred (written.Con other)) next numbered e =
    subst (λ (t : TestsSoFar). Goes vars negated values done t (λ named. only_if (holds pred v other) named)) (same_ok e)
    (plain-goes vars negated values done (test.Cmp attr pred (arg.Con other)) (λ named. only_if (holds pred v other) named) numbered
    (λ bindings named same. record { passes = holds pred v other; by_number = rw at refl; by_name = refl }))
simple-goes vars negated values attr v at done (simple.Cmp pred (written.Name name)) next numbered e =
    let w = passed (bound_to_its_left done.scope name) (λ var. Ok (with_test done (test.Cmp attr pred (arg.Var var)))) next e in
    let is = found (variable_of done.scope name) Unbound w.0 w.1 in
    subst (λ (t : TestsSoFar). Goes vars negated values done t (λ named. option_and_then (λ other. only_if (holds pred v other) named) (value_named named name))) (same_ok w.2)
    (plain-goes vars negated values done (test.Cmp attr pred (arg.Var w.0)) (λ named. option_and_then (λ other. only_if (holds pred v other) named) (value_named named name)) numbered
    (λ bindings named same.
    let h = value-known (variable_of done.scope) bindings named name w.0 same is in
    record { passes = holds pred v h.value; by_number = rw (at, h.by_number) refl; by_name = rw h.by_name refl }))
simple-goes vars negated values attr v at done (simple.OneOf among) next numbered e =
    subst (λ (t : TestsSoFar). Goes vars negated values done t (λ named. only_if (list_any (same_value v) among) named)) (same_ok e)
    (plain-goes vars negated values done (test.OneOf attr among) (λ named. only_if (list_any (same_value v) among) named) numbered
    (λ bindings named same. record { passes = list_any (same_value v) among; by_number = rw at refl; by_name = refl }))

-- the tests of braces
braces-go : (vars : ℕ) (negated : Bool) (values : List Value) (attr : ℕ) (v : Value) → slice_get values attr ≡ Some v → (done : TestsSoFar) (ss : List Simple) (next : TestsSoFar) → IsNumbered done.scope
    → after_each (with_simple negated attr) done ss ≡ Ok next → Goes vars negated values done next (λ named. after_braces ss named v)
braces-go vars negated values attr v at done [] next numbered e =
    subst (λ (t : TestsSoFar). Goes vars negated values done t (λ named. Some named)) (same_ok e) (goes-nowhere vars negated values done numbered)
braces-go vars negated values attr v at done (s ∷ ss) next numbered e =
    let w = passed (with_simple negated attr done s) (λ mid. after_each (with_simple negated attr) mid ss) next e in
    let first = simple-goes vars negated values attr v at done s w.0 numbered w.1 in
    goes-on vars negated values done w.0 next (λ named. after_written_test s named v) (λ named. after_braces ss named v) first (braces-go vars negated values attr v at w.0 ss next first.numbered w.2)

-- the tests of one attribute
attribute-goes : (vars : ℕ) (negated : Bool) (attrs : List ℕ) (values : List Value) → length attrs ≡ length values → (done : TestsSoFar) (w : ℕ × List Simple) (next : TestsSoFar) → IsNumbered done.scope
    → with_tests negated attrs done w ≡ Ok next → Goes vars negated values done next (λ named. after_attribute w named (zip attrs values))
attribute-goes vars negated attrs values size done w next numbered e =
    let a = passed (has_attribute attrs w.0) (λ attr. after_each (with_simple negated attr) done w.1) next e in
    let is = found (number_in attrs w.0) UnknownAttribute a.0 a.1 in
    let within : a.0 < length values = omega (arith, number_in-within attrs w.0 a.0 is, size) in
    let v = get_or values a.0 nil in
    let at = slice_get-get_or values a.0 nil within in
    subst (λ (o : Option Value). Goes vars negated values done next (λ named. option_and_then (after_braces w.1 named) o)) (sym (value_named-zip attrs values w.0 a.0 v is at))
    (braces-go vars negated values a.0 v at done w.1 next numbered a.2)

-- the tests of all attributes
pub attributes-go : (vars : ℕ) (negated : Bool) (attrs : List ℕ) (values : List Value) → length attrs ≡ length values → (done : TestsSoFar) (ws : List (ℕ × List Simple)) (next : TestsSoFar) → IsNumbered done.scope
    → after_each (with_tests negated attrs) done ws ≡ Ok next → Goes vars negated values done next (λ named. after_attributes ws named (zip attrs values))
attributes-go vars negated attrs values size done [] next numbered e =
    subst (λ (t : TestsSoFar). Goes vars negated values done t (λ named. Some named)) (same_ok e) (goes-nowhere vars negated values done numbered)
attributes-go vars negated attrs values size done (w ∷ ws) next numbered e =
    let t = passed (with_tests negated attrs done w) (λ mid. after_each (with_tests negated attrs) mid ws) next e in
    let first = attribute-goes vars negated attrs values size done w t.0 numbered t.1 in
    goes-on vars negated values done t.0 next (λ named. after_attribute w named (zip attrs values)) (λ named. after_attributes ws named (zip attrs values)) first
    (attributes-go vars negated attrs values size t.0 ws next first.numbered t.2)
