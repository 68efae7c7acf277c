-- What elements give variables: of a rule in which no variable is bound twice, each test that binds one tells it.
use Rattle.std.proofs.Common.{◌≡◌, ℕ, List, [], ◌∷◌, ◌++◌, Bool, true, false, cond, not, Option, Some, ◌⊎◌, inl, inr, map, find, zip, option_and_then, nat_eq, ◌==◌, refl, sym, ◌∙◌, ap, subst}
use Rattle.std.specs.List.{IsDistinct, flat_map}
use Rattle.std.proofs.lemmas.Bool.Decides.{Decides-eqb}
use Rattle.std.proofs.lemmas.List.{map-append}
use Rattle.rule_base.specs.declared.value.Value.{Value}
use Rattle.rule_base.specs.declared.element.Element.{Element}
use Rattle.rule_base.specs.declared.condition.Test.{Test}
use Rattle.rule_base.specs.declared.condition.Test.TheVariants.{Bind, Cmp, OneOf}
use Rattle.rule_base.specs.declared.condition.Cond.{Cond}
use Rattle.rule_base.specs.Sound.{bound_by_test, bound_variables}
use Rattle.rule_base.proofs.AmongLemmas.{Among, Among-append_left, Among-append_right, Among-flat_map, Among-map}
use Rattle.interference.specs.Given.{first_told, given, positive, taken, told_by, told_by_test, value_at}
use Rattle.interference.proofs.BindingLemmas.{Tells}
use Rattle.interference.proofs.ListLemmas.{Among-append, Each-among, distinct_apart, distinct_back, distinct_front, distinct_joined}

-- the variables that are told
abbrev told_vars : List (ℕ × Option Value) → List ℕ
told_vars told = map (λ (t : ℕ × Option Value). t.0) told

found_here : (b : Bool) (first : ℕ × Option Value) (rest : Option (ℕ × Option Value)) → b ≡ true → option_and_then (λ (t : ℕ × Option Value). t.1) (cond b (Some first) rest) ≡ first.1
found_here true first rest is = refl
found_here false first rest is = absurd (let wrong : ⊥ = cc in wrong)

found_later : (b : Bool) (first : ℕ × Option Value) (rest : Option (ℕ × Option Value)) (value : Option Value) → b ≡ false → option_and_then (λ (t : ℕ × Option Value). t.1) rest ≡ value → option_and_then (λ (t : ℕ × Option Value). t.1) (cond b (Some first) rest) ≡ value
found_later false first rest value is later = later
found_later true first rest value is later = absurd (let wrong : ⊥ = cc in wrong)

-- where none is told twice, each is told its value
first_told-among : (told : List (ℕ × Option Value)) (t : ℕ × Option Value) → IsDistinct nat_eq (told_vars told) → Among t told → first_told told t.0 ≡ t.1
unfolding IsDistinct
first_told-among [] t distinct among = absurd among
first_told-among (first ∷ told) t distinct (inl same) =
    found_here (first.0 == t.0) first (find (λ (u : ℕ × Option Value). u.0 == t.0) told) ((Decides-eqb first.0 t.0).1 (ap (λ (u : ℕ × Option Value). u.0) (sym same))) ∙ ap (λ (u : ℕ × Option Value). u.1) (sym same)
first_told-among (first ∷ told) t distinct (inr later) =
    let apart : (first.0 == t.0) ≡ false = Each-among (λ n. nat_eq first.0 n ≡ false) (told_vars told) t.0 distinct.0 (Among-map (λ (u : ℕ × Option Value). u.0) t told later) in
    found_later (first.0 == t.0) first (find (λ (u : ℕ × Option Value). u.0 == t.0) told) t.1 apart (first_told-among told t distinct.1 later)

-- the variables that tests tell are those that they bind
vars_of_tests : (pair : Cond × Element) (tests : List Test) → told_vars (flat_map (told_by_test pair) tests) ≡ flat_map bound_by_test tests
vars_of_tests pair [] = refl
vars_of_tests pair (Bind attr var ∷ tests) = ap (λ vars. var ∷ vars) (vars_of_tests pair tests)
vars_of_tests pair (Cmp attr pred arg ∷ tests) = vars_of_tests pair tests
vars_of_tests pair (OneOf attr among ∷ tests) = vars_of_tests pair tests

-- the variables that a condition element binds
abbrev pub vars_of : Cond → List ℕ
vars_of c = flat_map bound_by_test c.tests

-- the positive condition elements with their elements, where the first has this sign
abbrev pub taken_by : Bool → Cond → List Cond → List Element → List (Cond × Element)
taken_by sign first conds elements = zip (cond (not sign) (first ∷ positive conds) (positive conds)) elements

vars_of_pairs : (first : Cond) (conds : List Cond) (e : Element) (elements : List Element) → told_vars (told_by (taken_by false first conds (e ∷ elements))) ≡ vars_of first ++ told_vars (told_by (taken conds elements))
vars_of_pairs first conds e elements =
    map-append (λ (t : ℕ × Option Value). t.0) (flat_map (told_by_test (first, e)) first.tests) (told_by (taken conds elements))
    ∙ ap (λ vars. vars ++ told_vars (told_by (taken conds elements))) (vars_of_tests (first, e) first.tests)

told_is_bound_by : (sign : Bool) (first : Cond) (conds : List Cond) (elements : List Element) (n : ℕ) → ((es : List Element) → Among n (told_vars (told_by (taken conds es))) → Among n (bound_variables conds)) → Among n (told_vars (told_by (taken_by sign first conds elements))) → Among n (vars_of first ++ bound_variables conds)
told_is_bound_by true first conds elements n later among = Among-append_right n (vars_of first) (bound_variables conds) (later elements among)
told_is_bound_by false first conds [] n later among = absurd among
told_is_bound_by false first conds (e ∷ elements) n later among =
    by_side (Among-append n (vars_of first) (told_vars (told_by (taken conds elements))) (subst (λ vars. Among n vars) (vars_of_pairs first conds e elements) among))
  where
    by_side : Among n (vars_of first) ⊎ Among n (told_vars (told_by (taken conds elements))) → Among n (vars_of first ++ bound_variables conds)
    by_side (inl here) = Among-append_left n (vars_of first) (bound_variables conds) here
    by_side (inr there) = Among-append_right n (vars_of first) (bound_variables conds) (later elements there)

-- each variable that is told is bound
told_is_bound : (conds : List Cond) (elements : List Element) (n : ℕ) → Among n (told_vars (told_by (taken conds elements))) → Among n (bound_variables conds)
told_is_bound [] elements n among = absurd among
told_is_bound (first ∷ conds) elements n among = told_is_bound_by first.negated first conds elements n (λ es. told_is_bound conds es n) among

-- and none is told twice
told_once_by : (sign : Bool) (first : Cond) (conds : List Cond) (elements : List Element) → IsDistinct nat_eq (vars_of first ++ bound_variables conds) → ((es : List Element) → IsDistinct nat_eq (told_vars (told_by (taken conds es)))) → IsDistinct nat_eq (told_vars (told_by (taken_by sign first conds elements)))
unfolding IsDistinct
told_once_by true first conds elements distinct later = later elements
told_once_by false first conds [] distinct later = tt
told_once_by false first conds (e ∷ elements) distinct later =
    subst (IsDistinct nat_eq) (sym (vars_of_pairs first conds e elements))
    (distinct_joined (vars_of first) (told_vars (told_by (taken conds elements))) (distinct_front (vars_of first) (bound_variables conds) distinct) (later elements)
    (λ n left right. distinct_apart (vars_of first) (bound_variables conds) n distinct left (told_is_bound conds elements n right)))

told_once : (conds : List Cond) (elements : List Element) → IsDistinct nat_eq (bound_variables conds) → IsDistinct nat_eq (told_vars (told_by (taken conds elements)))
unfolding IsDistinct
told_once [] elements distinct = tt
told_once (first ∷ conds) elements distinct = told_once_by first.negated first conds elements distinct (λ es. told_once conds es (distinct_back (vars_of first) (bound_variables conds) distinct))

-- a test that binds tells
bind_tells : (pair : Cond × Element) (attr var : ℕ) (tests : List Test) → Among (Bind attr var) tests → Among (var, value_at pair attr) (flat_map (told_by_test pair) tests)
bind_tells pair attr var tests among = Among-flat_map (told_by_test pair) (Bind attr var) (var, value_at pair attr) tests among (inl refl)

-- so each pair tells what is given
pub Tells-taken : (conds : List Cond) (elements : List Element) (pair : Cond × Element) → IsDistinct nat_eq (bound_variables conds) → Among pair (taken conds elements) → Tells (given conds elements) pair
Tells-taken conds elements pair distinct of_pair attr var among =
    let here : Among (var, value_at pair attr) (told_by (taken conds elements)) = Among-flat_map (λ (p : Cond × Element). flat_map (told_by_test p) p.0.tests) pair (var, value_at pair attr) (taken conds elements) of_pair (bind_tells pair attr var pair.0.tests among) in
    first_told-among (told_by (taken conds elements)) (var, value_at pair attr) (told_once conds elements distinct) here
