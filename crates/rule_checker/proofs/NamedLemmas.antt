-- How the variables of a scope are found by their names, and what one variable more leaves as it was.
use Rattle.std.proofs.Common.{◌≡◌, ◌≢◌, ◌⊎◌, inl, inr, ℕ, ◌+◌, ◌<◌, Bool, true, false, cond, List, [], ◌∷◌, ◌++◌, Option, None, Some, is_some, length, nat_eq, slice_get, slice_set, get_or, zero, suc, refl, sym, ap, ◌∙◌, arith}
use Rattle.std.specs.Option.{option_or, option_flatten}
use Rattle.std.specs.List.{zip}
use Rattle.std.specs.Map.{lookup}
use Rattle.std.proofs.lemmas.Bool.Decides.{nat_tests}
use Rattle.std.proofs.lemmas.List.Quantifiers.{position-Some}
use Rattle.rule_base.specs.declared.value.Value.{Value}
use Rattle.rule_base.specs.Bindings.{Bindings, binding_of, bound}
use Rattle.rule_checker.specs.declared.scope.Scope.{Scope}
use Rattle.rule_checker.specs.Names.{Numbering, number_in, number_of}
use Rattle.rule_checker.specs.Scope.{variable_of, with_variable}
use Rattle.rule_checker.specs.NamedBindings.{NamedValues, value_named, naming, SayTheSame}

pub equal_numbers : (m n : ℕ) → nat_eq m n ≡ true → m ≡ n
equal_numbers m n h = grind (arith, nat_tests)

pub same_numbers : (m n : ℕ) → m ≡ n → nat_eq m n ≡ true
same_numbers m n h = grind (arith, nat_tests)

-- the value that was put at a place, and those elsewhere
pub slice_get-set : {A : Type 0} (xs : List A) (i : ℕ) (a : A) → i < length xs → slice_get (slice_set xs i a) i ≡ Some a
slice_get-set [] i a within = absurd (omega arith)
slice_get-set (x ∷ xs) zero a within = refl
slice_get-set (x ∷ xs) (suc i) a within = slice_get-set xs i a (omega arith)

pub slice_get-set_other : {A : Type 0} (xs : List A) (i j : ℕ) (a : A) → j ≢ i → slice_get (slice_set xs i a) j ≡ slice_get xs j
slice_get-set_other [] i j a differs = refl
slice_get-set_other (x ∷ xs) zero zero a differs = absurd (differs refl)
slice_get-set_other (x ∷ xs) zero (suc j) a differs = refl
slice_get-set_other (x ∷ xs) (suc i) zero a differs = refl
slice_get-set_other (x ∷ xs) (suc i) (suc j) a differs = slice_get-set_other xs i j a (λ same. differs (ap suc same))

-- the value of an attribute by its name is the one at its number
found-zip : (p : ℕ → Bool) (names : List ℕ) (values : List Value) (i : ℕ) (v : Value) → i < length names → p (get_or names i 0) ≡ true → ((k : ℕ) → k < i → p (get_or names k 0) ≡ false) → slice_get values i ≡ Some v
    → lookup p (zip names values) ≡ Some v
found-zip p [] values i v within passes earlier at = absurd (omega arith)
found-zip p (n ∷ names) [] i v within passes earlier at = absurd (cc)
found-zip p (n ∷ names) (x ∷ values) zero v within passes earlier at = rw passes at
found-zip p (n ∷ names) (x ∷ values) (suc i) v within passes earlier at =
    let first : p n ≡ false = earlier 0 (omega arith) in
    rw first (found-zip p names values i v (omega arith) passes (λ k below. earlier (suc k) (omega arith)) at)

pub value_named-zip : (names : List ℕ) (values : List Value) (name i : ℕ) (v : Value) → number_in names name ≡ Some i → slice_get values i ≡ Some v → value_named (zip names values) name ≡ Some v
value_named-zip names values name i v is at =
    let place = position-Some (nat_eq name) names i 0 is in
    found-zip (nat_eq name) names values i v place.0 place.1 place.2 at

-- one name more
number_of-push : (xs : Numbering) (key var name : ℕ) → number_of (xs ++ (key, var) ∷ []) name ≡ option_or (number_of xs name) (cond (nat_eq name key) (Some var) None)
number_of-push [] key var name = refl
number_of-push (x ∷ xs) key var name = by (number_of-push xs key var name) (nat_eq name x.0)
  where
    by : number_of (xs ++ (key, var) ∷ []) name ≡ option_or (number_of xs name) (cond (nat_eq name key) (Some var) None)
        → (b : Bool) → cond b (Some x.1) (number_of (xs ++ (key, var) ∷ []) name) ≡ option_or (cond b (Some x.1) (number_of xs name)) (cond (nat_eq name key) (Some var) None)
    by rest true = refl
    by rest false = rest

none_of_both : {A : Type 0} (a b : Option A) → option_or a b ≡ None → (a ≡ None) × (b ≡ None)
none_of_both None b h = (refl, h)
none_of_both (Some x) b h = absurd (cc)

or_none : {A : Type 0} (a : Option A) → option_or a None ≡ a
or_none None = refl
or_none (Some x) = refl

pub variable_of-new : (negated : Bool) (scope : Scope) (key : ℕ) → variable_of scope key ≡ None → variable_of (with_variable negated scope key) key ≡ Some scope.vars
variable_of-new true scope key is =
    let none = none_of_both (number_of scope.bound key) (number_of scope.local key) is in
    let here : nat_eq key key ≡ true = same_numbers key key refl in
    ap (λ o. option_or o (number_of (scope.local ++ (key, scope.vars) ∷ []) key)) none.0
    ∙ number_of-push scope.local key scope.vars key
    ∙ ap (λ o. option_or o (cond (nat_eq key key) (Some scope.vars) None)) none.1
    ∙ ap (λ b. cond b (Some scope.vars) None) here
variable_of-new false scope key is =
    let none = none_of_both (number_of scope.bound key) (number_of scope.local key) is in
    let here : nat_eq key key ≡ true = same_numbers key key refl in
    ap (λ o. option_or o (number_of scope.local key)) (number_of-push scope.bound key scope.vars key
    ∙ ap (λ o. option_or o (cond (nat_eq key key) (Some scope.vars) None)) none.0
    ∙ ap (λ b. cond b (Some scope.vars) None) here)

pub variable_of-other : (negated : Bool) (scope : Scope) (key name : ℕ) → nat_eq name key ≡ false → variable_of (with_variable negated scope key) name ≡ variable_of scope name
variable_of-other true scope key name differs =
    ap (option_or (number_of scope.bound name)) (number_of-push scope.local key scope.vars name
    ∙ ap (λ b. option_or (number_of scope.local name) (cond b (Some scope.vars) None)) differs
    ∙ or_none (number_of scope.local name))
variable_of-other false scope key name differs =
    ap (λ o. option_or o (number_of scope.local name)) (number_of-push scope.bound key scope.vars name
    ∙ ap (λ b. option_or (number_of scope.bound name) (cond b (Some scope.vars) None)) differs
    ∙ or_none (number_of scope.bound name))

-- the numbers of variables are below their count, and no two names have the same
pub record IsNumbered (scope : Scope) : Type 0 where
  pub below : (name var : ℕ) → variable_of scope name ≡ Some var → var < scope.vars
  pub apart : (first second var : ℕ) → variable_of scope first ≡ Some var → variable_of scope second ≡ Some var → first ≡ second

-- a name in a scope with one variable more: it is the new one, which has the next number, or it was there
name-in : (negated : Bool) (scope : Scope) (key name var : ℕ) → variable_of scope key ≡ None → variable_of (with_variable negated scope key) name ≡ Some var
    → ((name ≡ key) × (var ≡ scope.vars)) ⊎ (variable_of scope name ≡ Some var)
name-in negated scope key name var none is = by (nat_eq name key) refl
  where
    by : (b : Bool) → nat_eq name key ≡ b → ((name ≡ key) × (var ≡ scope.vars)) ⊎ (variable_of scope name ≡ Some var)
    by true same =
        let here : variable_of (with_variable negated scope key) name ≡ Some scope.vars = ap (variable_of (with_variable negated scope key)) (equal_numbers name key same) ∙ variable_of-new negated scope key none in
        let number : var ≡ scope.vars = cc in
        inl (equal_numbers name key same, number)
    by false differs = inr (sym (variable_of-other negated scope key name differs) ∙ is)

pub IsNumbered-more : (negated : Bool) (scope : Scope) (key : ℕ) (more : ℕ) → (with_variable negated scope key).vars ≡ more → more ≡ scope.vars + 1 → variable_of scope key ≡ None → IsNumbered scope → IsNumbered (with_variable negated scope key)
IsNumbered-more negated scope key more count next none h = record {
  below = λ name var is. below name var (name-in negated scope key name var none is);
  apart = λ first second var is also. apart first second var (name-in negated scope key first var none is) (name-in negated scope key second var none also);
}
  where
    below : (name var : ℕ) → ((name ≡ key) × (var ≡ scope.vars)) ⊎ (variable_of scope name ≡ Some var) → var < (with_variable negated scope key).vars
    below name var (inl new) = omega (arith, new.1, count, next)
    below name var (inr there) = omega (arith, h.below name var there, count, next)

    apart : (first second var : ℕ) → ((first ≡ key) × (var ≡ scope.vars)) ⊎ (variable_of scope first ≡ Some var) → ((second ≡ key) × (var ≡ scope.vars)) ⊎ (variable_of scope second ≡ Some var) → first ≡ second
    apart first second var (inl new) (inl also) = new.0 ∙ sym also.0
    apart first second var (inl new) (inr there) = absurd (omega (arith, new.1, h.below second var there))
    apart first second var (inr there) (inl new) = absurd (omega (arith, new.1, h.below first var there))
    apart first second var (inr there) (inr also) = h.apart first second var there also

-- a variable that gets a value, by its number and by its name
pub SayTheSame-naming : (negated : Bool) (scope : Scope) (key : ℕ) (bindings : Bindings) (named : NamedValues) (value : Value) → variable_of scope key ≡ None → IsNumbered scope → scope.vars < length bindings
    → SayTheSame (variable_of scope) bindings named → SayTheSame (variable_of (with_variable negated scope key)) (bound bindings scope.vars value) (naming named key value)
SayTheSame-naming negated scope key bindings named value none numbered within h = record { valued = λ name. with_value name (nat_eq name key) refl; same = λ name var is. with_same name var is (nat_eq name key) refl }
  where
    with_value : (name : ℕ) (b : Bool) → nat_eq name key ≡ b → is_some (cond b (Some value) (value_named named name)) ≡ is_some (variable_of (with_variable negated scope key) name)
    with_value name true same =
        sym (ap is_some (ap (variable_of (with_variable negated scope key)) (equal_numbers name key same) ∙ variable_of-new negated scope key none))
    with_value name false differs = h.valued name ∙ sym (ap is_some (variable_of-other negated scope key name differs))

    with_same : (name var : ℕ) → variable_of (with_variable negated scope key) name ≡ Some var → (b : Bool) → nat_eq name key ≡ b → binding_of (bound bindings scope.vars value) var ≡ cond b (Some value) (value_named named name)
    with_same name var is true same =
        let here : variable_of (with_variable negated scope key) name ≡ Some scope.vars = ap (variable_of (with_variable negated scope key)) (equal_numbers name key same) ∙ variable_of-new negated scope key none in
        let number : scope.vars ≡ var = cc in
        ap (binding_of (bound bindings scope.vars value)) (sym number) ∙ ap option_flatten (slice_get-set bindings scope.vars (Some value) within)
    with_same name var is false differs =
        let there : variable_of scope name ≡ Some var = sym (variable_of-other negated scope key name differs) ∙ is in
        let below = numbered.below name var there in
        ap option_flatten (slice_get-set_other bindings scope.vars var (Some value) (omega (arith, below))) ∙ h.same name var there

-- a variable that gets another value
pub SayTheSame-again : (scope : Scope) (key var : ℕ) (bindings : Bindings) (named : NamedValues) (value : Value) → variable_of scope key ≡ Some var → IsNumbered scope → var < length bindings
    → SayTheSame (variable_of scope) bindings named → SayTheSame (variable_of scope) (bound bindings var value) (naming named key value)
SayTheSame-again scope key var bindings named value is numbered within h = record { valued = λ name. with_value name (nat_eq name key) refl; same = λ name other there. with_same name other there (nat_eq name key) refl }
  where
    with_value : (name : ℕ) (b : Bool) → nat_eq name key ≡ b → is_some (cond b (Some value) (value_named named name)) ≡ is_some (variable_of scope name)
    with_value name true same = sym (ap is_some (ap (variable_of scope) (equal_numbers name key same) ∙ is))
    with_value name false differs = h.valued name

    with_same : (name other : ℕ) → variable_of scope name ≡ Some other → (b : Bool) → nat_eq name key ≡ b → binding_of (bound bindings var value) other ≡ cond b (Some value) (value_named named name)
    with_same name other there true same =
        let here : variable_of scope name ≡ Some var = ap (variable_of scope) (equal_numbers name key same) ∙ is in
        let number : var ≡ other = cc in
        ap (binding_of (bound bindings var value)) (sym number) ∙ ap option_flatten (slice_get-set bindings var (Some value) within)
    with_same name other there false differs =
        let elsewhere = λ (equal : other ≡ var).
        let also : variable_of scope name ≡ Some var = there ∙ ap Some equal in
        let wrong = sym differs ∙ same_numbers name key (numbered.apart name key var also is) in
        let no : ⊥ = cc in
        no in
        ap option_flatten (slice_get-set_other bindings var other (Some value) elsewhere) ∙ h.same name other there

-- a name with a number has a value, and both bindings have it
pub record HasValue (bindings : Bindings) (named : NamedValues) (name var : ℕ) : Type 0 where
  pub value : Value
  pub by_number : binding_of bindings var ≡ Some value
  pub by_name : value_named named name ≡ Some value

pub value-known : (number : ℕ → Option ℕ) (bindings : Bindings) (named : NamedValues) (name var : ℕ) → SayTheSame number bindings named → number name ≡ Some var → HasValue bindings named name var
value-known number bindings named name var h is = by (value_named named name) refl
  where
    by : (o : Option Value) → value_named named name ≡ o → HasValue bindings named name var
    by None none = let wrong = sym (ap is_some none) ∙ h.valued name ∙ ap is_some is in absurd (cc)
    by (Some value) some = record { value = value; by_number = h.same name var is ∙ some; by_name = some }

-- and one without a number has none
pub value-unknown : (number : ℕ → Option ℕ) (bindings : Bindings) (named : NamedValues) (name : ℕ) → SayTheSame number bindings named → number name ≡ None → value_named named name ≡ None
value-unknown number bindings named name h is = by (value_named named name) refl
  where
    by : (o : Option Value) → value_named named name ≡ o → value_named named name ≡ None
    by None none = none
    by (Some value) some = let wrong = sym (ap is_some some) ∙ h.valued name ∙ ap is_some is in absurd (cc)
