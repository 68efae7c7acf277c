-- The rules of actions, from the first to the last.
use Rattle.std.specs.Prelude.{ℕ, List, [], ◌∷◌, ◌++◌, false, Option, Some, None, length, nat_le, slice_get, pos, negsuc, zero, suc, Result, Ok, Err}
use Rattle.std.specs.Option.{option_map_or}
use Rattle.rule_base.specs.declared.action.Term.{Term}
use Rattle.rule_base.specs.declared.action.Action.{Action}
use Rattle.rule_base.specs.declared.action.Action.TheVariants as action
use Rattle.rule_base.specs.declared.program.Class.{Class}
use Rattle.rule_base.specs.Chains.{◌>>=◌}
use Rattle.ops_reader.specs.declared.form.At.{At}
use Rattle.ops_reader.specs.declared.form.At.TheVariants as at
use Rattle.ops_reader.specs.declared.form.FormTerm.{FormTerm}
use Rattle.ops_reader.specs.declared.form.FormAction.{FormAction}
use Rattle.ops_reader.specs.declared.form.FormAction.TheVariants as form_action
use Rattle.rule_checker.specs.declared.refusal.CheckKind.{CheckKind}
use Rattle.rule_checker.specs.declared.refusal.CheckKind.TheVariants.{BadDesignator, TooMany}
use Rattle.rule_checker.specs.declared.scope.Scope.{Scope}
use Rattle.rule_checker.specs.declared.left_side.Elements.{Elements}
use Rattle.rule_checker.specs.declared.right_side.RightSide.{RightSide}
use Rattle.rule_checker.specs.Names.{number_of}
use Rattle.rule_checker.specs.Classes.{declared_class, attributes_at, has_attribute}
use Rattle.rule_checker.specs.Scope.{variable_of, with_variable}
use Rattle.rule_checker.specs.Terms.{term_of, with_item}
use Rattle.rule_checker.specs.Walk.{refused_if, found_or, after_each}

-- it is at most the 64th action
abbrev pub few_actions : RightSide → Result (Unit {0}) CheckKind
few_actions right = refused_if (nat_le 64 (length right.actions)) TooMany

-- the designator is 1 to the number of positive condition elements, or a declared element variable: their number from 0
abbrev pub known_designator : Elements → At → Result ℕ CheckKind
known_designator elements (at.Number (pos zero)) = Err BadDesignator
known_designator elements (at.Number (pos (suc place))) = refused_if (nat_le (length elements.classes) place) BadDesignator >>= λ _. Ok place
known_designator elements (at.Number (negsuc n)) = Err BadDesignator
known_designator elements (at.Name name) = found_or (number_of elements.names name) BadDesignator

-- a setting: the attribute is the class's, and then each variable of the value is bound
abbrev pub setting_of : List ℕ → Scope → ℕ × FormTerm → Result (ℕ × Term) CheckKind
setting_of attrs scope written = has_attribute attrs written.0 >>= λ attr. term_of scope written.1 >>= λ t. Ok (attr, t)

-- one setting more
abbrev pub with_setting : List ℕ → Scope → List (ℕ × Term) → ℕ × FormTerm → Result (List (ℕ × Term)) CheckKind
with_setting attrs scope done written = setting_of attrs scope written >>= λ set. Ok (done ++ set ∷ [])

-- one designator more
abbrev pub with_designator : Elements → List ℕ → At → Result (List ℕ) CheckKind
with_designator elements done written = known_designator elements written >>= λ place. Ok (done ++ place ∷ [])

-- a make, which says how many attributes its class has
abbrev pub make_action : List Class → Scope → ℕ → List (ℕ × FormTerm) → Result Action CheckKind
make_action classes scope name sets =
    declared_class classes name >>= λ class.
    after_each (with_setting (attributes_at classes class) scope) [] sets >>= λ done. Ok (action.Make class (length (attributes_at classes class)) done)

-- the attributes of the element that is designated: those of its class
abbrev pub attributes_of : List Class → Elements → ℕ → List ℕ
attributes_of classes elements place = option_map_or (attributes_at classes) (slice_get elements.classes place) []

-- a modify, whose attributes are those of the designated element
abbrev pub modify_action : List Class → Elements → Scope → At → List (ℕ × FormTerm) → Result Action CheckKind
modify_action classes elements scope written sets =
    known_designator elements written >>= λ place.
    after_each (with_setting (attributes_of classes elements place) scope) [] sets >>= λ done. Ok (action.Modify place done)

-- the variable that a bind sets: the one of this name, or else a new one
abbrev pub set_variable : Scope → ℕ → Option ℕ → ℕ × Scope
set_variable scope name (Some var) = (var, scope)
set_variable scope name None = (scope.vars, with_variable false scope name)

-- one action more, in which no variable is bound
abbrev pub with_plain_action : RightSide → Action → RightSide
with_plain_action right a = record right { actions = right.actions ++ a ∷ [] }

-- the actions with a bind of this variable
abbrev pub with_bind : RightSide → Term → ℕ × Scope → RightSide
with_bind right value set = record { actions = right.actions ++ action.Bind set.0 value ∷ []; scope = set.1 }

-- a bind more: its value is checked before its variable is bound
abbrev pub bind_action : RightSide → ℕ → FormTerm → Result RightSide CheckKind
bind_action right name value =
    term_of right.scope value >>= λ t. Ok (with_bind right t (set_variable right.scope name (variable_of right.scope name)))

-- the rules of one action, and the actions with it
abbrev pub after_action : List Class → Elements → RightSide → FormAction → Result RightSide CheckKind
after_action classes elements right (form_action.Make class sets) = make_action classes right.scope class sets >>= λ a. Ok (with_plain_action right a)
after_action classes elements right (form_action.Modify written sets) =
    modify_action classes elements right.scope written sets >>= λ a. Ok (with_plain_action right a)
after_action classes elements right (form_action.Remove places) =
    after_each (with_designator elements) [] places >>= λ done. Ok (with_plain_action right (action.Remove done))
after_action classes elements right (form_action.Bind name value) = bind_action right name value
after_action classes elements right (form_action.Write items) =
    after_each (with_item right.scope) [] items >>= λ done. Ok (with_plain_action right (action.Write done))
after_action classes elements right form_action.Halt = Ok (with_plain_action right action.Halt)

-- one action more
abbrev pub with_action : List Class → Elements → RightSide → FormAction → Result RightSide CheckKind
with_action classes elements right written = few_actions right >>= λ _. after_action classes elements right written

-- the right-hand side of a rule whose condition elements bind these variables and match these elements
abbrev pub right_side : List Class → Scope → Elements → List FormAction → Result RightSide CheckKind
right_side classes scope elements actions = after_each (with_action classes elements) (record { actions = []; scope = scope }) actions
