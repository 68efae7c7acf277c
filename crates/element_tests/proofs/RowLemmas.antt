-- Rows of bindings: what stays when a variable gets a value or loses it, and how a value is taken away again.
use Rattle.std.proofs.Common.{◌≡◌, ℕ, ◌<◌, List, [], ◌∷◌, ◌++◌, length, Bool, true, false, ◌||◌, ◌==◌, Some, None, suc, zero, refl, sym, ◌∙◌, ap, subst, arith, length-set}
use Rattle.std.proofs.lemmas.List.{set-set}
use Rattle.std.proofs.lemmas.Bool.{eqb-true}
use Rattle.std.specs.List.{AllByRecursion, list_any}
use Rattle.rule_base.specs.declared.value.Value.{Value}
use Rattle.rule_base.specs.declared.condition.Test.{Test}
use Rattle.rule_base.specs.declared.condition.Test.TheVariants.{Bind, Cmp, OneOf}
use Rattle.rule_base.specs.Bindings.{Bindings, binding_of, bound}
use Rattle.element_tests.specs.Asking.{HasValue}
use Rattle.element_tests.specs.Unbinding.{unset, unbound_by, unbound_by_test}

-- a variable that has a value keeps one
pub HasValue-bound : (b : Bindings) (var u : ℕ) (v : Value) → HasValue b u → HasValue (bound b var v) u
HasValue-bound [] var u v has = has
HasValue-bound (x ∷ b) zero zero v has = refl
HasValue-bound (x ∷ b) zero (suc u) v has = has
HasValue-bound (x ∷ b) (suc var) zero v has = has
HasValue-bound (x ∷ b) (suc var) (suc u) v has = HasValue-bound b var u v has

-- a variable that gets a value has one
pub HasValue-new : (b : Bindings) (var : ℕ) (v : Value) → var < length b → HasValue (bound b var v) var
HasValue-new [] var v within = absurd (omega arith)
HasValue-new (x ∷ b) zero v within = refl
HasValue-new (x ∷ b) (suc var) v within = HasValue-new b var v (omega arith)

pub All-HasValue-bound : (b : Bindings) (var : ℕ) (v : Value) (known : List ℕ) → AllByRecursion (HasValue b) known → AllByRecursion (HasValue (bound b var v)) known
All-HasValue-bound b var v [] has = tt
All-HasValue-bound b var v (u ∷ known) has = (HasValue-bound b var u v has.0, All-HasValue-bound b var v known has.1)

known_step : (b : Bindings) (var u : ℕ) (known : List ℕ) (same : Bool) → (u == var) ≡ same → HasValue b u → AllByRecursion (HasValue b) known → (same || list_any (λ n. n == var) known) ≡ true → (list_any (λ n. n == var) known ≡ true → HasValue b var) → HasValue b var
known_step b var u known true at has all is later = subst (HasValue b) (eqb-true u var at) has
known_step b var u known false at has all is later = later is

-- a known variable has a value
pub HasValue-known : (b : Bindings) (var : ℕ) (known : List ℕ) → AllByRecursion (HasValue b) known → list_any (λ n. n == var) known ≡ true → HasValue b var
HasValue-known b var [] has is = absurd (let wrong : ⊥ = cc in wrong)
HasValue-known b var (u ∷ known) has is = known_step b var u known (u == var) refl has.0 has.1 is (HasValue-known b var known has.1)

-- taking away no value changes nothing
pub unset-none : (b : Bindings) (var : ℕ) → binding_of b var ≡ None → unset b var ≡ b
unset-none [] var is = refl
unset-none (x ∷ b) zero is = ap (λ y. y ∷ b) (sym is)
unset-none (x ∷ b) (suc var) is = ap (λ c. x ∷ c) (unset-none b var is)

-- the order in which values are taken away doesn't matter
unset-unset : (b : Bindings) (i j : ℕ) → unset (unset b i) j ≡ unset (unset b j) i
unset-unset [] i j = refl
unset-unset (x ∷ b) zero zero = refl
unset-unset (x ∷ b) zero (suc j) = refl
unset-unset (x ∷ b) (suc i) zero = refl
unset-unset (x ∷ b) (suc i) (suc j) = ap (λ c. x ∷ c) (unset-unset b i j)

unbound_by-unset : (tests : List Test) (b : Bindings) (var : ℕ) → unbound_by (unset b var) tests ≡ unset (unbound_by b tests) var
unbound_by-unset [] b var = refl
unbound_by-unset (Bind attr u ∷ tests) b var = ap (λ c. unbound_by c tests) (unset-unset b var u) ∙ unbound_by-unset tests (unset b u) var
unbound_by-unset (Cmp attr pred other ∷ tests) b var = unbound_by-unset tests b var
unbound_by-unset (OneOf attr among ∷ tests) b var = unbound_by-unset tests b var

unbound_by-push : (tests : List Test) (b : Bindings) (test : Test) → unbound_by b (tests ++ test ∷ []) ≡ unbound_by_test (unbound_by b tests) test
unbound_by-push [] b test = refl
unbound_by-push (first ∷ tests) b test = unbound_by-push tests (unbound_by_test b first) test

-- what tests bind, and then a variable that got a value, taken away together: the row from before both
pub unbound_by-bound : (tests : List Test) (b before : Bindings) (attr var : ℕ) (v : Value) → binding_of before var ≡ None → unbound_by b tests ≡ before → unbound_by (bound b var v) (tests ++ Bind attr var ∷ []) ≡ before
unbound_by-bound tests b before attr var v new back =
    unbound_by-push tests (bound b var v) (Bind attr var)
    ∙ sym (unbound_by-unset tests (bound b var v) var)
    ∙ ap (λ c. unbound_by c tests) (set-set b var (Some v) None)
    ∙ unbound_by-unset tests b var
    ∙ ap (λ c. unset c var) back
    ∙ unset-none before var new

-- a test that binds nothing adds nothing to take away
pub unbound_by-same : (tests : List Test) (b before : Bindings) (test : Test) → ((c : Bindings) → unbound_by_test c test ≡ c) → unbound_by b tests ≡ before → unbound_by b (tests ++ test ∷ []) ≡ before
unbound_by-same tests b before test same back = unbound_by-push tests b test ∙ same (unbound_by b tests) ∙ back

-- taking a value away leaves the row's length
pub length-unbound_by_test : (b : Bindings) (test : Test) → length (unbound_by_test b test) ≡ length b
length-unbound_by_test b (Bind attr var) = length-set b var None
length-unbound_by_test b (Cmp attr pred other) = refl
length-unbound_by_test b (OneOf attr among) = refl
