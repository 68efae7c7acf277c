-- What a negated condition element that accepts an element says of it: its attribute has the value that it is pinned to.
use Rattle.std.proofs.Common.{◌≡◌, ℕ, List, [], ◌∷◌, Bool, true, false, ◌&&◌, Option, Some, ◌⊎◌, inl, inr, slice_get, ◌==◌, refl, sym, ◌∙◌, ap, subst}
use Rattle.std.specs.Option.{option_or}
use Rattle.std.proofs.lemmas.Bool.Decides.{Decides-eqb, Decides-int_eq}
use Rattle.rule_base.specs.declared.value.Value.{Value}
use Rattle.rule_base.specs.declared.value.Value.TheVariants.{Int, Sym}
use Rattle.rule_base.specs.declared.element.Element.{Element}
use Rattle.rule_base.specs.declared.condition.Arg.{Arg}
use Rattle.rule_base.specs.declared.condition.Arg.TheVariants.{Con, Var}
use Rattle.rule_base.specs.declared.condition.Pred.{Pred}
use Rattle.rule_base.specs.declared.condition.Pred.TheVariants.{Eq, Ne, Lt, Le, Gt, Ge, Same}
use Rattle.rule_base.specs.declared.condition.Test.{Test}
use Rattle.rule_base.specs.declared.condition.Test.TheVariants.{Bind, Cmp, OneOf}
use Rattle.rule_base.specs.declared.condition.Cond.{Cond}
use Rattle.rule_base.specs.Chains.{only_if, first_answer}
use Rattle.rule_base.specs.Value.{same_value}
use Rattle.rule_base.specs.Predicate.{holds, is_equality}
use Rattle.rule_base.specs.Bindings.{Bindings, binding_of, bound}
use Rattle.rule_base.specs.Acceptance.{accepts, after_test, after_tests, compared_with}
use Rattle.rule_base.specs.Sound.{bound_by_test}
use Rattle.std.specs.List.{flat_map}
use Rattle.rule_base.proofs.AmongLemmas.{Among}
use Rattle.interference.specs.Given.{given}
use Rattle.interference.specs.Pins.{first_pin, is_bound, is_told, pin}
use Rattle.interference.specs.Regions.{pinned_value, told_value}
use Rattle.interference.proofs.OptionLemmas.{Gave-some, GaveMapped-some, both_hold}
use Rattle.interference.proofs.BindingLemmas.{Agrees, IsAccepted-accepts, IsCompared, IsCompared-passed, bound_or_before, one_of_same}

-- values that are the same are equal
same_value-equal : (a b : Value) → same_value a b ≡ true → a ≡ b
same_value-equal (Int a) (Int b) same = ap (λ z. Int z) ((Decides-int_eq a b).0 same)
same_value-equal (Sym a) (Sym b) same = ap (λ n. Sym n) ((Decides-eqb a b).0 same)
same_value-equal (Int a) (Sym b) same = absurd (let wrong : ⊥ = cc in wrong)
same_value-equal (Sym a) (Int b) same = absurd (let wrong : ⊥ = cc in wrong)

-- and so are those of which an equality holds
equality_holds : (pred : Pred) (a b : Value) → is_equality pred ≡ true → holds pred a b ≡ true → a ≡ b
equality_holds Eq a b is held = same_value-equal a b held
equality_holds Ne a b is held = absurd (let wrong : ⊥ = cc in wrong)
equality_holds Lt a b is held = absurd (let wrong : ⊥ = cc in wrong)
equality_holds Le a b is held = absurd (let wrong : ⊥ = cc in wrong)
equality_holds Gt a b is held = absurd (let wrong : ⊥ = cc in wrong)
equality_holds Ge a b is held = absurd (let wrong : ⊥ = cc in wrong)
equality_holds Same a b is held = absurd (let wrong : ⊥ = cc in wrong)

-- what is given to variables that positive condition elements bind is what they have in these bindings
abbrev AgreesWhereBound : List Cond → (ℕ → Option Value) → Bindings → Type 0
AgreesWhereBound conds gives b = (var : ℕ) (value : Value) → is_bound conds var ≡ true → binding_of b var ≡ Some value → gives var ≡ Some value

-- tests bind none of these variables
abbrev pub BindsOthers : List Cond → List Test → Type 0
BindsOthers conds tests = (var : ℕ) → is_bound conds var ≡ true → Among var (flat_map bound_by_test tests) → ⊥

-- a test that pins passes, and what it pins to is known
told_is_compared : (conds : List Cond) (gives : ℕ → Option Value) (b : Bindings) (arg : Arg) (other value : Value) → AgreesWhereBound conds gives b → is_told conds arg ≡ true → compared_with arg b ≡ Some other → told_value gives arg ≡ Some value → other ≡ value
told_is_compared conds gives b (Con c) other value agrees told compared known = cc
told_is_compared conds gives b (Var var) other value agrees told compared known =
    let same : Some other ≡ Some value = sym (agrees var other told compared) ∙ known in cc

of_pinning : (conds : List Cond) (gives : ℕ → Option Value) (attr at : ℕ) (pred : Pred) (arg : Arg) (b mid : Bindings) (values : List Value) (value : Value) → AgreesWhereBound conds gives b → (is_equality pred && (at == attr) && is_told conds arg) ≡ true → IsCompared at pred arg b values mid → told_value gives arg ≡ Some value → slice_get values attr ≡ Some value
of_pinning conds gives attr at pred arg b mid values value agrees pins is known =
    let first = both_hold (is_equality pred && (at == attr)) (is_told conds arg) pins in
    let second = both_hold (is_equality pred) (at == attr) first.0 in
    let here : at ≡ attr = (Decides-eqb at attr).0 second.1 in
    let equal : is.value ≡ is.other = equality_holds pred is.value is.other second.0 is.held in
    let same : is.other ≡ value = told_is_compared conds gives b arg is.other value agrees first.1 is.compared known in
    ap (slice_get values) (sym here) ∙ is.at ∙ ap (λ v. Some v) (equal ∙ same)

-- the first test to pin an attribute says its value
abbrev RestPins : List Cond → (ℕ → Option Value) → ℕ → Arg → Value → List Test → Type 0
RestPins conds gives attr arg value tests = (b after : Bindings) (values : List Value) → BindsOthers conds tests → AgreesWhereBound conds gives b → after_tests tests b values ≡ Some after → first_answer (pin conds attr) tests ≡ Some arg → slice_get values attr ≡ Some value

by_pin : (conds : List Cond) (gives : ℕ → Option Value) (attr at : ℕ) (pred : Pred) (other arg : Arg) (value : Value) (tests : List Test) (b mid after : Bindings) (values : List Value) (pins : Bool) → (is_equality pred && (at == attr) && is_told conds other) ≡ pins → IsCompared at pred other b values mid → told_value gives arg ≡ Some value → RestPins conds gives attr arg value tests → BindsOthers conds tests → AgreesWhereBound conds gives b → after_tests tests mid values ≡ Some after → option_or (only_if pins other) (first_answer (pin conds attr) tests) ≡ Some arg → slice_get values attr ≡ Some value
by_pin conds gives attr at pred other arg value tests b mid after values true is compared known rest others agrees passed first =
    let same : other ≡ arg = cc in
    of_pinning conds gives attr at pred other b mid values value agrees is compared (ap (told_value gives) same ∙ known)
by_pin conds gives attr at pred other arg value tests b mid after values false is compared known rest others agrees passed first =
    rest mid after values others (subst (AgreesWhereBound conds gives) compared.same agrees) passed first

pinned_by_tests : (conds : List Cond) (gives : ℕ → Option Value) (attr : ℕ) (arg : Arg) (value : Value) (tests : List Test) → told_value gives arg ≡ Some value → RestPins conds gives attr arg value tests
pinned_by_tests conds gives attr arg value [] known b after values others agrees passed first = absurd (let wrong : ⊥ = cc in wrong)
pinned_by_tests conds gives attr arg value (Bind at var ∷ tests) known b after values others agrees passed first =
    let gave = Gave-some (after_test (Bind at var) b values) (λ mid. after_tests tests mid values) after passed in
    let taken = GaveMapped-some (slice_get values at) (bound b var) gave.first gave.is in
    pinned_by_tests conds gives attr arg value tests known gave.first after values (λ w is among. others w is (inr among))
    (subst (AgreesWhereBound conds gives) taken.last_is (λ w x is now. by_either w x taken.first is (bound_or_before b var w taken.first x now))) gave.next_is first
  where
    by_either : (w : ℕ) (x new : Value) → is_bound conds w ≡ true → ((w ≡ var) × (new ≡ x)) ⊎ (binding_of b w ≡ Some x) → gives w ≡ Some x
    by_either w x new is (inl here) = absurd (others w is (inl here.0))
    by_either w x new is (inr before) = agrees w x is before
pinned_by_tests conds gives attr arg value (Cmp at pred other ∷ tests) known b after values others agrees passed first =
    let gave = Gave-some (after_test (Cmp at pred other) b values) (λ mid. after_tests tests mid values) after passed in
    by_pin conds gives attr at pred other arg value tests b gave.first after values (is_equality pred && (at == attr) && is_told conds other) refl (IsCompared-passed at pred other b values gave.first gave.is) known
    (pinned_by_tests conds gives attr arg value tests known) others agrees gave.next_is first
pinned_by_tests conds gives attr arg value (OneOf at among ∷ tests) known b after values others agrees passed first =
    let gave = Gave-some (after_test (OneOf at among) b values) (λ mid. after_tests tests mid values) after passed in
    pinned_by_tests conds gives attr arg value tests known gave.first after values others (subst (AgreesWhereBound conds gives) (one_of_same at among b values gave.first gave.is) agrees) gave.next_is first

-- an element that a negated condition element accepts has the value to which it pins an attribute
pub pinned_value-accepted : (conds : List Cond) (elements : List Element) (c : Cond) (b after : Bindings) (e : Element) (attr : ℕ) (value : Value) → BindsOthers conds c.tests → Agrees (given conds elements) b → accepts c b e ≡ Some after → pinned_value conds elements c attr ≡ Some value → slice_get e.values attr ≡ Some value
pinned_value-accepted conds elements c b after e attr value others agrees accepted known =
    let is = IsAccepted-accepts c b e after accepted in
    let gave = Gave-some (first_pin conds attr c) (told_value (given conds elements)) value known in
    pinned_by_tests conds (given conds elements) attr gave.first value c.tests gave.next_is b after e.values others (λ var x bound' now. agrees var x now) is.passed gave.is
