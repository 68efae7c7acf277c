-- Regions: which part of its class an element falls into that a negated condition element accepts, or an action makes.
use Rattle.std.specs.Prelude.{ℕ, List, [], ◌∷◌, Bool, false, not, if◌then◌else◌, Option, Some, None, fold, map, slice_get, option_and_then, ◌==◌}
use Rattle.std.specs.List.{list_any}
use Rattle.std.specs.Option.{option_map_or}
use Rattle.rule_base.specs.declared.value.Value.{Value}
use Rattle.rule_base.specs.declared.element.Element.{Element}
use Rattle.rule_base.specs.declared.condition.Arg.{Arg}
use Rattle.rule_base.specs.declared.condition.Arg.TheVariants as arg
use Rattle.rule_base.specs.declared.condition.Cond.{Cond}
use Rattle.rule_base.specs.declared.action.Term.{Term}
use Rattle.rule_base.specs.declared.action.Term.TheVariants as term
use Rattle.rule_base.specs.declared.action.Action.{Action}
use Rattle.rule_base.specs.declared.action.Action.TheVariants as action
use Rattle.rule_base.specs.declared.program.Rule.{Rule}
use Rattle.rule_base.specs.Chains.{only_if}
use Rattle.rule_base.specs.Value.{nil}
use Rattle.interference.specs.Locks.{bucket, every_region, region}
use Rattle.interference.specs.Given.{given, taken, value_at}
use Rattle.interference.specs.Pins.{first_pin}
use Rattle.interference.specs.Splits.{split_of}

-- the regions of what has this value at the split, as far as it is known
abbrev pub regions_of_value : Option Value → List ℕ
regions_of_value None = every_region
regions_of_value (Some value) = bucket value ∷ []

-- the regions by the split of the class, if it has one, and by what is known of the values at attributes
abbrev pub regions_by : Option ℕ → (ℕ → Option Value) → List ℕ
regions_by None known = 0 ∷ []
regions_by (Some attr) known = regions_of_value (known attr)

-- the locks of a class's regions for values of which so much is known
abbrev pub region_locks : List (Option ℕ) → ℕ → (ℕ → Option Value) → List ℕ
region_locks splits class known = map (region class) (regions_by (split_of splits class) known)

-- the value of what a test compares with, by what the variables are given
abbrev pub told_value : (ℕ → Option Value) → Arg → Option Value
told_value gives (arg.Con value) = Some value
told_value gives (arg.Var var) = gives var

-- what is known of an attribute of the elements that a negated condition element accepts: the value that it is pinned to
abbrev pub pinned_value : List Cond → List Element → Cond → ℕ → Option Value
pinned_value conds elements cond attr = option_and_then (told_value (given conds elements)) (first_pin conds attr cond)

-- the regions that a negated condition element watches
abbrev pub watched_regions : List (Option ℕ) → Rule → List Element → Cond → List ℕ
watched_regions splits rule elements cond = region_locks splits cond.class (pinned_value rule.conds elements cond)

-- whether the action sets the variable
abbrev pub sets : ℕ → Action → Bool
sets var (action.Make class size settings) = false
sets var (action.Modify at settings) = false
sets var (action.Remove ats) = false
sets var (action.Bind other term) = other == var
sets var (action.Write items) = false
sets var action.Halt = false

-- what is known of a term's value before the rule fires: a variable that an action sets may have another value by then
abbrev pub term_known : Rule → List Element → Term → Option Value
term_known rule elements (term.Con value) = Some value
term_known rule elements (term.Var var) = option_and_then (given rule.conds elements) (only_if (not (list_any (sets var) rule.actions)) var)
term_known rule elements (term.Compute expression) = None

-- what is known of an attribute after settings in order, of which the last to set it counts
abbrev pub known_after : Rule → List Element → ℕ → Option Value → List (ℕ × Term) → Option Value
known_after rule elements attr known settings =
    fold (λ before (set : ℕ × Term). if set.0 == attr then term_known rule elements set.1 else before) known settings

-- the regions that an action grows: those into which an element falls that it makes
abbrev pub grown_regions : List (Option ℕ) → Rule → List Element → Action → List ℕ
grown_regions splits rule elements (action.Make class size settings) = region_locks splits class (λ attr. known_after rule elements attr (Some nil) settings)
grown_regions splits rule elements (action.Modify at settings) =
    option_map_or (λ (pair : Cond × Element). region_locks splits pair.0.class (λ attr. known_after rule elements attr (value_at pair attr) settings)) (slice_get (taken rule.conds elements) at) []
grown_regions splits rule elements (action.Remove ats) = []
grown_regions splits rule elements (action.Bind var term) = []
grown_regions splits rule elements (action.Write items) = []
grown_regions splits rule elements action.Halt = []
