-- What a candidate gives its rule's variables: the values that they have in its elements.
use Rattle.std.specs.Prelude.{ℕ, List, [], ◌∷◌, not, Option, filter, find, flat_map, zip, slice_get, option_and_then, ◌==◌}
use Rattle.rule_base.specs.declared.value.Value.{Value}
use Rattle.rule_base.specs.declared.element.Element.{Element}
use Rattle.rule_base.specs.declared.condition.Test.{Test}
use Rattle.rule_base.specs.declared.condition.Test.TheVariants.{Bind, Cmp, OneOf}
use Rattle.rule_base.specs.declared.condition.Cond.{Cond}
use Rattle.rule_base.specs.Chains.{only_if}

-- the positive condition elements, in order
abbrev pub positive : List Cond → List Cond
positive conds = filter (λ (c : Cond). not c.negated) conds

-- and the negated ones
abbrev pub negated : List Cond → List Cond
negated conds = filter (λ (c : Cond). c.negated) conds

-- each positive condition element with its element
abbrev pub taken : List Cond → List Element → List (Cond × Element)
taken conds elements = zip (positive conds) elements

-- the value that an element has at an attribute, where it is of the condition element's class
abbrev pub value_at : Cond × Element → ℕ → Option Value
value_at pair attr = option_and_then (λ (e : Element). slice_get e.values attr) (only_if (pair.0.class == pair.1.class) pair.1)

-- the variable that a test binds, with the value that it takes
abbrev pub told_by_test : Cond × Element → Test → List (ℕ × Option Value)
told_by_test pair (Bind attr var) = (var, value_at pair attr) ∷ []
told_by_test pair (Cmp attr pred arg) = []
told_by_test pair (OneOf attr among) = []

-- the variables that condition elements bind, each with the value that it takes, from left to right
abbrev pub told_by : List (Cond × Element) → List (ℕ × Option Value)
told_by pairs = flat_map (λ (pair : Cond × Element). flat_map (told_by_test pair) pair.0.tests) pairs

-- the value under which a variable stands first among these
abbrev pub first_told : List (ℕ × Option Value) → ℕ → Option Value
first_told told var = option_and_then (λ (t : ℕ × Option Value). t.1) (find (λ (t : ℕ × Option Value). t.0 == var) told)

-- the value that elements give a variable of condition elements: the one that the first test of a positive condition
-- element to bind it takes
abbrev pub given : List Cond → List Element → ℕ → Option Value
given conds elements var = first_told (told_by (taken conds elements)) var
