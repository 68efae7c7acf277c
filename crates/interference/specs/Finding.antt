-- What the crate's functions promise each other: the first test that binds a variable, and regions by one number.
use Rattle.std.specs.Prelude.{ℕ, List, [], ◌∷◌, Bool, false, Option, Some, None, ◌+◌, ◌<◌, if◌then◌else◌, nat_lt, filter_map, fold, option_and_then, is_some, map, slice_get, not, ◌&&◌, ◌==◌}
use Rattle.std.specs.List.{AllByRecursion}
use Rattle.rule_base.specs.declared.lock.Mode.{Mode}
use Rattle.rule_base.specs.declared.lock.Mode.TheVariants.{Watch, Grow, Own}
use Rattle.rule_base.specs.declared.element.Element.{Element}
use Rattle.rule_base.specs.declared.condition.Test.{Test}
use Rattle.rule_base.specs.declared.condition.Test.TheVariants.{Bind, Cmp, OneOf}
use Rattle.rule_base.specs.declared.condition.Cond.{Cond}
use Rattle.rule_base.specs.declared.action.Action.{Action}
use Rattle.rule_base.specs.declared.action.Action.TheVariants as action
use Rattle.rule_base.specs.declared.program.Rule.{Rule}
use Rattle.rule_base.specs.Chains.{only_if, first_answer}
use Rattle.interference.specs.Locks.{every_region, region, stripe}
use Rattle.std.specs.Option.{option_map_or}
use Rattle.std.specs.List.{list_any}
use Rattle.interference.specs.Given.{positive}
use Rattle.interference.specs.MayInterfere.{class_at, classes_of}
use Rattle.interference.specs.Regions.{watched_regions}
use Rattle.interference.specs.Footprint.{in_mode, with_demand}

-- the place of a mode in a table
abbrev pub place_of : Mode → ℕ
place_of Watch = 0
place_of Grow = 1
place_of Own = 2

-- the attribute to which a test binds the variable
abbrev pub binding_attribute : ℕ → Test → Option ℕ
binding_attribute var (Bind attr other) = only_if (other == var) attr
binding_attribute var (Cmp attr pred arg) = None
binding_attribute var (OneOf attr among) = None

-- the attribute to which the first test to bind the variable binds it
abbrev pub first_binding : ℕ → List Test → Option ℕ
first_binding var tests = first_answer (binding_attribute var) tests

-- whether a condition element is positive and binds the variable
abbrev pub binds : Cond → ℕ → Bool
binds c var = not c.negated && is_some (first_binding var c.tests)

-- one region, or all
abbrev pub numbers : Option ℕ → List ℕ
numbers None = every_region
numbers (Some number) = number ∷ []

-- a footprint with more demands
abbrev pub with_demands : List (ℕ × Mode) → List (ℕ × Mode) → List (ℕ × Mode)
with_demands footprint more = fold with_demand footprint more

-- with demands of one region of a class, or of all
abbrev pub with_regions : List (ℕ × Mode) → ℕ → Option ℕ → Mode → List (ℕ × Mode)
with_regions footprint class number mode = with_demands footprint (in_mode mode (map (region class) (numbers number)))

-- how many demands from the first on are of a lesser lock
abbrev pub lesser : ℕ → List (ℕ × Mode) → ℕ
lesser lock [] = 0
lesser lock (first ∷ rest) = if nat_lt first.0 lock then lesser lock rest + 1 else 0

-- the mode of the demand at a place, where it is of the lock
abbrev pub asked_at : List (ℕ × Mode) → ℕ → ℕ → Option Mode
asked_at demands place lock = option_and_then (λ (d : ℕ × Mode). only_if (d.0 == lock) d.1) (slice_get demands place)

-- the stripes of the elements that designators designate
abbrev pub designated_locks : List ℕ → List ℕ → List ℕ
designated_locks tags designators = map stripe (filter_map (slice_get tags) designators)

-- a make is of one of at most 256 classes
abbrev pub IsOfFewClasses : Action → Type 0
IsOfFewClasses (action.Make class size settings) = class < 256
IsOfFewClasses (action.Modify at settings) = Unit {0}
IsOfFewClasses (action.Remove ats) = Unit {0}
IsOfFewClasses (action.Bind var term) = Unit {0}
IsOfFewClasses (action.Write items) = Unit {0}
IsOfFewClasses action.Halt = Unit {0}

-- and so are the condition elements and all makes of a rule
pub record HasFewClasses (rule : Rule) : Type 0 where
  pub conds : AllByRecursion (λ (c : Cond). c.class < 256) rule.conds
  pub actions : AllByRecursion IsOfFewClasses rule.actions

-- the regions that a condition element watches, if it is negated
abbrev pub watched_if_negated : List (Option ℕ) → Rule → List Element → Cond → List ℕ
watched_if_negated splits rule elements c = if c.negated then watched_regions splits rule elements c else []

-- whether other condition elements have a positive one of the class at a designator
abbrev pub takes_at : List Cond → List Cond → ℕ → Bool
takes_at conds others at = option_map_or (λ class. list_any (λ k. k == class) (classes_of (positive others))) (class_at conds at) false
