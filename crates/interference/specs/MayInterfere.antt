-- Whether firings of two rules may interfere at all, as the rules alone tell it: by what they ask of whole classes.
use Rattle.std.specs.Prelude.{ℕ, List, [], ◌∷◌, ◌++◌, Bool, false, not, ◌||◌, Option, Some, None, filter_map, flat_map, length, map, option_to_list, slice_get, ◌==◌}
use Rattle.std.specs.List.{list_any, range_with_len}
use Rattle.std.specs.Option.{option_map_or}
use Rattle.rule_base.specs.declared.lock.Mode.{Mode}
use Rattle.rule_base.specs.declared.lock.Mode.TheVariants.{Watch, Grow}
use Rattle.rule_base.specs.declared.condition.Cond.{Cond}
use Rattle.rule_base.specs.declared.action.Action.{Action}
use Rattle.rule_base.specs.declared.action.Action.TheVariants as action
use Rattle.rule_base.specs.declared.program.Rule.{Rule}
use Rattle.rule_base.specs.declared.program.Program.{Program}
use Rattle.interference.specs.Modes.{asks, goes}
use Rattle.interference.specs.Given.{negated, positive}
use Rattle.interference.specs.Footprint.{designators, in_mode}

-- the classes of condition elements
abbrev pub classes_of : List Cond → List ℕ
classes_of conds = map (λ (c : Cond). c.class) conds

-- the class of the condition element that a designator designates
abbrev pub class_at : List Cond → ℕ → Option ℕ
class_at conds at = slice_get (classes_of (positive conds)) at

-- the class of which an action makes an element
abbrev pub grown_classes : List Cond → Action → List ℕ
grown_classes conds (action.Make class size settings) = class ∷ []
grown_classes conds (action.Modify at settings) = option_to_list (class_at conds at)
grown_classes conds (action.Remove ats) = []
grown_classes conds (action.Bind var term) = []
grown_classes conds (action.Write items) = []
grown_classes conds action.Halt = []

-- what a rule demands of classes: those of its negated condition elements are watched, those of what it makes grown
abbrev pub class_demands : Rule → List (ℕ × Mode)
class_demands rule = in_mode Watch (classes_of (negated rule.conds)) ++ in_mode Grow (flat_map (grown_classes rule.conds) rule.actions)

-- two modes that are asked for, and don't go together
abbrev pub disagree : Option Mode → Option Mode → Bool
disagree None other = false
disagree (Some mode) None = false
disagree (Some mode) (Some other) = not (goes mode other)

-- whether the modes that two rules ask of one of so many classes don't go together
abbrev pub classes_disagree : ℕ → Rule → Rule → Bool
classes_disagree count one other = list_any (λ class. disagree (asks (class_demands one) class) (asks (class_demands other) class)) (range_with_len 0 count)

-- whether one rule removes or modifies at a condition element of a class of which the other has a positive one
abbrev pub takes_from : Rule → Rule → Bool
takes_from one other =
    list_any (λ class. list_any (λ k. k == class) (classes_of (positive other.conds))) (filter_map (class_at one.conds) (flat_map designators one.actions))

-- whether two rules may interfere, over so many classes
abbrev pub rules_interfere : ℕ → Rule → Rule → Bool
rules_interfere count one other = classes_disagree count one other || takes_from one other || takes_from other one

-- whether two rules of a program may interfere, by their numbers: the same rule may stand in both places
abbrev pub may_interfere : Program → ℕ → ℕ → Bool
may_interfere program a b =
    option_map_or (λ (one : Rule). option_map_or (λ (other : Rule). rules_interfere (length program.classes) one other) (slice_get program.rules b) false) (slice_get program.rules a) false
