-- Footprints: the locks that a candidate asks for, each with its mode, and when two of them clash.
use Rattle.std.specs.Prelude.{◌≡◌, ℕ, List, [], ◌∷◌, ◌++◌, false, if◌then◌else◌, Option, Some, filter_map, flat_map, fold, map, nat_lt, slice_get, ◌==◌}
use Rattle.std.specs.Option.{option_map_or}
use Rattle.rule_base.specs.declared.lock.Mode.{Mode}
use Rattle.rule_base.specs.declared.lock.Mode.TheVariants.{Watch, Grow, Own}
use Rattle.rule_base.specs.declared.element.Element.{Element}
use Rattle.rule_base.specs.declared.instantiation.Candidate.{Candidate}
use Rattle.rule_base.specs.declared.action.Action.{Action}
use Rattle.rule_base.specs.declared.action.Action.TheVariants as action
use Rattle.rule_base.specs.declared.program.Rule.{Rule}
use Rattle.rule_base.specs.declared.program.Program.{Program}
use Rattle.interference.specs.Modes.{asks, both, goes}
use Rattle.interference.specs.Locks.{stripe}
use Rattle.interference.specs.Given.{negated}
use Rattle.interference.specs.Regions.{grown_regions, watched_regions}
use Rattle.interference.specs.Splits.{splits_of}

-- the designators of the elements that an action removes or modifies
abbrev pub designators : Action → List ℕ
designators (action.Make class size settings) = []
designators (action.Modify at settings) = at ∷ []
designators (action.Remove ats) = ats
designators (action.Bind var term) = []
designators (action.Write items) = []
designators action.Halt = []

-- a demand for each of these locks in one mode
abbrev pub in_mode : Mode → List ℕ → List (ℕ × Mode)
in_mode mode locks = map (λ lock. (lock, mode)) locks

-- the matched elements are to stay
abbrev pub matched_demands : List ℕ → List (ℕ × Mode)
matched_demands tags = in_mode Watch (map stripe tags)

-- what goes is owned
abbrev pub designated_demands : Rule → List ℕ → List (ℕ × Mode)
designated_demands rule tags = in_mode Own (map stripe (filter_map (slice_get tags) (flat_map designators rule.actions)))

-- nothing may come that a negated condition element accepts
abbrev pub negated_demands : List (Option ℕ) → Rule → List Element → List (ℕ × Mode)
negated_demands splits rule elements = in_mode Watch (flat_map (watched_regions splits rule elements) (negated rule.conds))

-- and what comes grows its class
abbrev pub made_demands : List (Option ℕ) → Rule → List Element → List (ℕ × Mode)
made_demands splits rule elements = in_mode Grow (flat_map (grown_regions splits rule elements) rule.actions)

-- all that a candidate of the rule demands
abbrev pub demands : List (Option ℕ) → Rule → Candidate → List (ℕ × Mode)
demands splits rule candidate =
    matched_demands candidate.choice.tags ++ designated_demands rule candidate.choice.tags ++ negated_demands splits rule candidate.elements
    ++ made_demands splits rule candidate.elements

-- a footprint with one more demand: in its place, and in one mode with what it asks of this lock already
abbrev pub with_demand : List (ℕ × Mode) → ℕ × Mode → List (ℕ × Mode)
with_demand [] demand = demand ∷ []
with_demand (first ∷ rest) demand =
    if nat_lt demand.0 first.0 then demand ∷ first ∷ rest
    else if demand.0 == first.0 then (first.0, both first.1 demand.1) ∷ rest
    else first ∷ with_demand rest demand

-- demands in rising order, with one mode for each lock
abbrev pub gathered : List (ℕ × Mode) → List (ℕ × Mode)
gathered all = fold with_demand [] all

-- the footprint of a candidate
abbrev pub footprint : Program → Candidate → List (ℕ × Mode)
footprint program candidate =
    option_map_or (λ (rule : Rule). gathered (demands (splits_of program) rule candidate)) (slice_get program.rules candidate.choice.rule) []

-- there are a lock and two modes asked of it that don't go together
pub record Clash (one other : List (ℕ × Mode)) : Type 0 where
  pub lock : ℕ
  pub mode : Mode
  pub beside : Mode
  pub asked : asks one lock ≡ Some mode
  pub asked_too : asks other lock ≡ Some beside
  pub apart : goes mode beside ≡ false
