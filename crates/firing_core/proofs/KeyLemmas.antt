-- What a condition element accepts has the key to which it pins that.
use Rattle.std.proofs.Common.{◌≡◌, ℕ, List, [], ◌∷◌, true, false, ◌&&◌, Option, None, Some, is_some, option_map, slice_get, ◌==◌, refl, sym, ◌∙◌, ap, subst}
use Rattle.std.specs.List.{AllByRecursion}
use Rattle.std.specs.Option.{option_map_or, option_or}
use Rattle.std.proofs.lemmas.Bool.{eq-eqb, eqb-true}
use Rattle.rule_base.specs.declared.value.Value.{Value}
use Rattle.rule_base.specs.declared.element.Element.{Element}
use Rattle.rule_base.specs.declared.condition.Arg.{Arg}
use Rattle.rule_base.specs.declared.condition.Arg.TheVariants.{Con, Var}
use Rattle.rule_base.specs.declared.condition.Pred.{Pred}
use Rattle.rule_base.specs.declared.condition.Pred.TheVariants.{Eq, Ne, Lt, Le, Gt, Ge, Same}
use Rattle.rule_base.specs.declared.condition.Test.{Test}
use Rattle.rule_base.specs.declared.condition.Test.TheVariants.{Bind, Cmp, OneOf}
use Rattle.rule_base.specs.declared.condition.Cond.{Cond}
use Rattle.rule_base.specs.Chains.{only_if, first_answer}
use Rattle.rule_base.specs.Value.{same_value}
use Rattle.rule_base.specs.Predicate.{holds, is_equality}
use Rattle.rule_base.specs.Bindings.{Bindings, binding_of}
use Rattle.rule_base.specs.Acceptance.{accepts, after_test, after_tests, compared_with}
use Rattle.element_tests.specs.Asking.{BindsNew, MayAsk}
use Rattle.element_tests.proofs.PassLemmas.{IsTaken, IsTaken-after_test}
use Rattle.interference.proofs.BindingLemmas.{IsAccepted-accepts, IsCompared-passed}
use Rattle.interference.proofs.OptionLemmas.{Gave-some, Held-some, both_hold}
use Rattle.working_memory.specs.declared.groups.Key.{Key}
use Rattle.working_memory.specs.Groups.{same_key}
use Rattle.firing_core.specs.Grouped.{has_key, key_at}
use Rattle.firing_core.specs.PinnedKeys.{is_grouped, key_by, pinned_key}
use Rattle.firing_core.proofs.MatchingLemmas.{binding_of-bound}

-- what a key says of values of a class, and that it is by a grouped attribute
record IsOfKey (attributes : List (List ℕ)) (class : ℕ) (values : List Value) (key : Key) : Type 0 where
  value : Value
  at : slice_get values key.attribute ≡ Some value
  same : same_value value key.value ≡ true
  of_class : key.class ≡ class
  grouped : is_grouped attributes class key.attribute ≡ true

-- each variable that had a value has it still
abbrev Keeps : Bindings → Bindings → Type 0
Keeps before b = (var : ℕ) (v : Value) → binding_of before var ≡ Some v → binding_of b var ≡ Some v

Keeps-compared : (before b : Bindings) (arg : Arg) (v : Value) → Keeps before b → compared_with arg before ≡ Some v → compared_with arg b ≡ Some v
Keeps-compared before b (Con c) v keeps is = is
Keeps-compared before b (Var var) v keeps is = keeps var v is

-- so it is after a test that binds a variable which had none
Keeps-taken : (before b mid : Bindings) (test : Test) → BindsNew before test → Keeps before b → IsTaken b mid test → Keeps before mid
Keeps-taken before b mid (Bind attr var) new keeps taken u v is =
    let other : var ≡ u → ⊥ = λ (same : var ≡ u). let none : binding_of before u ≡ None = subst (λ w. binding_of before w ≡ None) same new in absurd (let wrong : ⊥ = cc in wrong) in
    ap (λ c. binding_of c u) taken.1 ∙ binding_of-bound b var u taken.0 other ∙ keeps u v is
Keeps-taken before b mid (Cmp attr pred arg) new keeps taken u v is = ap (λ c. binding_of c u) taken ∙ keeps u v is
Keeps-taken before b mid (OneOf attr among) new keeps taken u v is = ap (λ c. binding_of c u) taken ∙ keeps u v is

-- an equality that holds compares the same values
equality_holds : (pred : Pred) (a b : Value) → is_equality pred ≡ true → holds pred a b ≡ true → same_value a b ≡ true
equality_holds Eq a b is held = held
equality_holds Ne a b is held = absurd (let wrong : ⊥ = cc in wrong)
equality_holds Lt a b is held = absurd (let wrong : ⊥ = cc in wrong)
equality_holds Le a b is held = absurd (let wrong : ⊥ = cc in wrong)
equality_holds Gt a b is held = absurd (let wrong : ⊥ = cc in wrong)
equality_holds Ge a b is held = absurd (let wrong : ⊥ = cc in wrong)
equality_holds Same a b is held = absurd (let wrong : ⊥ = cc in wrong)

-- a test that gives a key, and passes
by_test : (attributes : List (List ℕ)) (class : ℕ) (before b mid : Bindings) (values : List Value) (test : Test) (key : Key) → Keeps before b → key_by attributes class before test ≡ Some key → after_test test b values ≡ Some mid → IsOfKey attributes class values key
by_test attributes class before b mid values (Bind attr var) key keeps gives passes = absurd (let wrong : ⊥ = cc in wrong)
by_test attributes class before b mid values (OneOf attr among) key keeps gives passes = absurd (let wrong : ⊥ = cc in wrong)
by_test attributes class before b mid values (Cmp attr pred arg) key keeps gives passes =
    let key_of : Value → Key = λ (v : Value). record { class = class; attribute = attr; value = v } in
    let gave = Gave-some (compared_with arg before) (λ (v : Value). only_if (is_equality pred && is_grouped attributes class attr) (key_of v)) key gives in
    let held = Held-some (is_equality pred && is_grouped attributes class attr) (key_of gave.first) key gave.next_is in
    let both = both_hold (is_equality pred) (is_grouped attributes class attr) held.holds in
    let passed = IsCompared-passed attr pred arg b values mid passes in
    let told = Keeps-compared before b arg gave.first keeps gave.is in
    let other_is : passed.other ≡ gave.first = (let some : Some passed.other ≡ Some gave.first = sym passed.compared ∙ told in cc) in
    let of_key : IsOfKey attributes class values (key_of gave.first) = record {
      value = passed.value;
      at = passed.at;
      same = subst (λ (v : Value). same_value passed.value v ≡ true) other_is (equality_holds pred passed.value passed.other both.0 passed.held);
      of_class = refl;
      grouped = both.1;
    } in
    subst (IsOfKey attributes class values) held.same of_key

-- the first of some tests that gives one
abbrev RestIsOfKey : List (List ℕ) → ℕ → Bindings → List Value → Key → List Test → Type 0
RestIsOfKey attributes class before values key tests = (b after : Bindings) → AllByRecursion (BindsNew before) tests → Keeps before b → first_answer (key_by attributes class before) tests ≡ Some key → after_tests tests b values ≡ Some after → IsOfKey attributes class values key

first_step : (attributes : List (List ℕ)) (class : ℕ) (before : Bindings) (values : List Value) (key : Key) (test : Test) (tests : List Test) (b mid after : Bindings) (o : Option Key) → key_by attributes class before test ≡ o → RestIsOfKey attributes class before values key tests → AllByRecursion (BindsNew before) (test ∷ tests) → Keeps before b → option_or o (first_answer (key_by attributes class before) tests) ≡ Some key → after_test test b values ≡ Some mid → after_tests tests mid values ≡ Some after → IsOfKey attributes class values key
first_step attributes class before values key test tests b mid after (Some k) gives rest new keeps first passes passed =
    let same : Some k ≡ Some key = first in
    by_test attributes class before b mid values test key keeps (gives ∙ same) passes
first_step attributes class before values key test tests b mid after None gives rest new keeps first passes passed =
    rest mid after new.1 (Keeps-taken before b mid test new.0 keeps (IsTaken-after_test b mid values test passes)) first passed

first_of : (attributes : List (List ℕ)) (class : ℕ) (before : Bindings) (values : List Value) (key : Key) (tests : List Test) → RestIsOfKey attributes class before values key tests
first_of attributes class before values key [] b after new keeps first passed = absurd (let wrong : ⊥ = cc in wrong)
first_of attributes class before values key (test ∷ tests) b after new keeps first passed =
    let gave = Gave-some (after_test test b values) (λ mid. after_tests tests mid values) after passed in
    first_step attributes class before values key test tests b gave.first after (key_by attributes class before test) refl (first_of attributes class before values key tests) new keeps first gave.is gave.next_is

-- so an element that is accepted has the key, by a grouped attribute
pub record HasPinnedKey (attributes : List (List ℕ)) (key : Key) (e : Element) : Type 0 where
  pub has : has_key key e ≡ true
  pub grouped : is_grouped attributes key.class key.attribute ≡ true

has_key_of : (attributes : List (List ℕ)) (key : Key) (e : Element) → IsOfKey attributes e.class e.values key → has_key key e ≡ true
has_key_of attributes key e is =
    let at : key_at e key.attribute ≡ Some (record { class = e.class; attribute = key.attribute; value = is.value }) = ap (option_map (λ (v : Value). record { class = e.class; attribute = key.attribute; value = v })) is.at in
    let class : (e.class == key.class) ≡ true = eq-eqb e.class key.class (sym is.of_class) in
    let attribute : (key.attribute == key.attribute) ≡ true = eq-eqb key.attribute key.attribute refl in
    ap (λ (o : Option Key). option_map_or (λ (k : Key). same_key k key) o false) at ∙ (λ i. class i && attribute i && is.same i)

accepted_some : (o : Option Bindings) → is_some o ≡ true → (after : Bindings) × (o ≡ Some after)
accepted_some (Some after) is = (after, refl)
accepted_some None is = absurd (let wrong : ⊥ = cc in wrong)

pub HasPinnedKey-accepted : (attributes : List (List ℕ)) (cond : Cond) (b : Bindings) (key : Key) (e : Element) → pinned_key attributes b cond ≡ Some key → MayAsk cond b e → is_some (accepts cond b e) ≡ true → HasPinnedKey attributes key e
HasPinnedKey-accepted attributes cond b key e pinned may is =
    let some = accepted_some (accepts cond b e) is in
    let accepted = IsAccepted-accepts cond b e some.0 some.1 in
    let class : cond.class ≡ e.class = eqb-true cond.class e.class accepted.class in
    let of_key = first_of attributes cond.class b e.values key cond.tests b some.0 may.binds_new (λ var v at. at) pinned accepted.passed in
    record {
      has = has_key_of attributes key e (subst (λ c. IsOfKey attributes c e.values key) class of_key);
      grouped = subst (λ c. is_grouped attributes c key.attribute ≡ true) (sym of_key.of_class) of_key.grouped;
    }
