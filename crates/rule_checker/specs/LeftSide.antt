-- The rules of condition elements, from left to right.
use Rattle.std.specs.Prelude.{ℕ, List, [], ◌∷◌, ◌++◌, Bool, true, false, ◌&&◌, Option, Some, None, is_some, length, nat_le, nat_eq, Result, Ok}
use Rattle.rule_base.specs.declared.program.Class.{Class}
use Rattle.rule_base.specs.Chains.{◌>>=◌}
use Rattle.ops_reader.specs.declared.form.FormCond.{FormCond}
use Rattle.rule_checker.specs.declared.refusal.CheckKind.{CheckKind}
use Rattle.rule_checker.specs.declared.refusal.CheckKind.TheVariants.{Twice, FirstNegated, TooMany}
use Rattle.rule_checker.specs.declared.condition_tests.TestsSoFar.{TestsSoFar}
use Rattle.rule_checker.specs.declared.left_side.Elements.{Elements}
use Rattle.rule_checker.specs.declared.left_side.LeftSide.{LeftSide}
use Rattle.rule_checker.specs.Names.{number_of}
use Rattle.rule_checker.specs.Classes.{declared_class, attributes_at}
use Rattle.rule_checker.specs.Scope.{no_variables, behind}
use Rattle.rule_checker.specs.ConditionTests.{tests_of}
use Rattle.rule_checker.specs.Walk.{refused_if, after_each}

-- it is at most the 32nd condition element
abbrev pub few_conditions : LeftSide → Result (Unit {0}) CheckKind
few_conditions left = refused_if (nat_le 32 (length left.conds)) TooMany

-- the first condition element isn't negated
abbrev pub first_is_positive : LeftSide → Bool → Result (Unit {0}) CheckKind
first_is_positive left negated = refused_if (nat_eq (length left.conds) 0 && negated) FirstNegated

-- no earlier condition element has this element variable
abbrev pub new_element_variable : Elements → ℕ → Result (Unit {0}) CheckKind
new_element_variable elements name = refused_if (is_some (number_of elements.names name)) Twice

-- the elements with that of one positive condition element more, which may have a name
abbrev pub with_element : Elements → ℕ → Option ℕ → Result Elements CheckKind
with_element elements class None = Ok (record elements { classes = elements.classes ++ class ∷ [] })
with_element elements class (Some name) =
    new_element_variable elements name >>= λ _.
    Ok (record { classes = elements.classes ++ class ∷ []; names = elements.names ++ (name, length elements.classes) ∷ [] })

-- the same of any condition element: no element matches a negated one, so that it has none to name
abbrev pub elements_after : Elements → Bool → ℕ → Option ℕ → Result Elements CheckKind
elements_after elements true class named = Ok elements
elements_after elements false class named = with_element elements class named

-- the rules inside a condition element of the class with this number, which has these attributes; its element variable
-- is asked for after its tests
abbrev pub with_pattern : ℕ → List ℕ → LeftSide → FormCond → Result LeftSide CheckKind
with_pattern class attrs left cond =
    tests_of left.scope cond.negated attrs cond.tests >>= λ (done : TestsSoFar).
    elements_after left.elements cond.negated class cond.named >>= λ elements.
    Ok (record { conds = left.conds ++ record { negated = cond.negated; class = class; tests = done.tests } ∷ []; scope = behind done.scope; elements = elements })

-- one condition element more
abbrev pub with_cond : List Class → LeftSide → FormCond → Result LeftSide CheckKind
with_cond classes left cond =
    few_conditions left >>= λ _. first_is_positive left cond.negated >>= λ _. declared_class classes cond.class >>= λ class.
    with_pattern class (attributes_at classes class) left cond

-- no condition elements
abbrev pub no_conditions : LeftSide
no_conditions = record { conds = []; scope = no_variables; elements = record { classes = []; names = [] } }

-- the left-hand side of these condition elements
abbrev pub left_side : List Class → List FormCond → Result LeftSide CheckKind
left_side classes conds = after_each (with_cond classes) no_conditions conds
