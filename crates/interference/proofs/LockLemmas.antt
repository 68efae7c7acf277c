-- Footprints ask for locks that there are, and for one at least.
use Rattle.std.proofs.Common.{◌≡◌, ℕ, ◌<◌, List, [], ◌∷◌, ◌++◌, Bool, true, false, if◌then◌else◌, not, Option, Some, None, filter_map, flat_map, length, map, nat_lt, option_map, slice_get, ◌==◌, refl, sym, ◌∙◌, ap, subst, arith}
use Rattle.std.specs.List.{AllByRecursion}
use Rattle.std.specs.Option.{option_map_or}
use Rattle.rule_base.specs.declared.value.Value.{Value}
use Rattle.rule_base.specs.declared.element.Element.{Element}
use Rattle.rule_base.specs.declared.lock.Mode.{Mode}
use Rattle.rule_base.specs.declared.lock.Mode.TheVariants.{Watch, Grow, Own}
use Rattle.rule_base.specs.declared.condition.Cond.{Cond}
use Rattle.rule_base.specs.declared.action.Term.{Term}
use Rattle.rule_base.specs.declared.action.Action.{Action}
use Rattle.rule_base.specs.declared.action.Action.TheVariants as action
use Rattle.rule_base.specs.declared.instantiation.Candidate.{Candidate}
use Rattle.rule_base.specs.declared.program.Rule.{Rule}
use Rattle.rule_base.specs.declared.program.Program.{Program}
use Rattle.rule_base.specs.Fits.{Fits}
use Rattle.rule_base.specs.Memory.{tags_of}
use Rattle.rule_base.specs.Sound.{IsSound, IsSoundRule, begins_positive, positive_classes, sizes_of}
use Rattle.rule_base.proofs.EachLemmas.{Each-always, Each-append, Each-filter, Each-flat_map, Each-map, Each-slice_get, Each-weaker}
use Rattle.interference.specs.Modes.{both}
use Rattle.interference.specs.Locks.{lock_count, region, stripe}
use Rattle.interference.specs.Given.{negated, positive, taken, value_at}
use Rattle.interference.specs.Splits.{split_of, splits_of}
use Rattle.interference.specs.Regions.{grown_regions, known_after, region_locks, regions_by, watched_regions}
use Rattle.interference.specs.Footprint.{demands, designated_demands, designators, footprint, gathered, in_mode, made_demands, matched_demands, negated_demands, with_demand}
use Rattle.interference.specs.Finding.{HasFewClasses, IsOfFewClasses, with_demands}
use Rattle.interference.proofs.DemandCodeLemmas.{HasFewClasses-sound, few_classes-at}
use Rattle.interference.proofs.ListLemmas.{Each-from_among, zip-first}
use Rattle.interference.proofs.RegionLemmas.{region_below, stripe_below}

-- a lock that there is, and a demand of one
abbrev IsLock : ℕ → Type 0
IsLock lock = lock < lock_count

abbrev IsOfLock : ℕ × Mode → Type 0
IsOfLock d = d.0 < lock_count

-- demands in one mode of locks that there are
in_mode-locks : (mode : Mode) (locks : List ℕ) → AllByRecursion IsLock locks → AllByRecursion IsOfLock (in_mode mode locks)
in_mode-locks mode locks each = Each-map IsOfLock (λ lock. (lock, mode)) locks each

-- the stripes
stripes_below : (tags : List ℕ) → AllByRecursion IsLock (map stripe tags)
stripes_below tags = Each-map IsLock stripe tags (Each-always (λ tag. IsLock (stripe tag)) (λ tag. omega (arith, stripe_below tag)) tags)

-- the regions of a class
regions_below : (splits : List (Option ℕ)) (class : ℕ) (known : ℕ → Option Value) → class < 256 → AllByRecursion IsLock (region_locks splits class known)
regions_below splits class known few =
    Each-map IsLock (region class) (regions_by (split_of splits class) known)
    (Each-from_among (λ n. IsLock (region class n)) (regions_by (split_of splits class) known) (λ n among. omega (arith, few, region_below (split_of splits class) known n among)))

-- the regions that a negated condition element watches
watched_below : (splits : List (Option ℕ)) (rule : Rule) (elements : List Element) → HasFewClasses rule → AllByRecursion IsLock (flat_map (watched_regions splits rule elements) (negated rule.conds))
watched_below splits rule elements few =
    let few_negated = Each-filter (λ (c : Cond). c.class < 256) (λ (c : Cond). c.negated) rule.conds few.conds in
    Each-flat_map IsLock (watched_regions splits rule elements) (negated rule.conds)
    (Each-weaker (λ (c : Cond). c.class < 256) (λ c. AllByRecursion IsLock (watched_regions splits rule elements c)) (λ c. regions_below splits c.class _) (negated rule.conds) few_negated)

-- the regions that an action grows
modify_below : (splits : List (Option ℕ)) (rule : Rule) (elements : List Element) (at : ℕ) (settings : List (ℕ × Term)) (o : Option (Cond × Element)) → slice_get (taken rule.conds elements) at ≡ o → HasFewClasses rule
    → AllByRecursion IsLock (option_map_or (λ (pair : Cond × Element). region_locks splits pair.0.class (λ attr. known_after rule elements attr (value_at pair attr) settings)) o [])
modify_below splits rule elements at settings None is few = tt
modify_below splits rule elements at settings (Some pair) is few =
    regions_below splits pair.0.class (λ attr. known_after rule elements attr (value_at pair attr) settings) (few_classes-at rule.conds at pair.0 few.conds (zip-first (positive rule.conds) elements at pair is))

action_below : (splits : List (Option ℕ)) (rule : Rule) (elements : List Element) (a : Action) → HasFewClasses rule → IsOfFewClasses a → AllByRecursion IsLock (grown_regions splits rule elements a)
action_below splits rule elements (action.Make class size settings) few of_action = regions_below splits class _ of_action
action_below splits rule elements (action.Modify at settings) few of_action = modify_below splits rule elements at settings (slice_get (taken rule.conds elements) at) refl few
action_below splits rule elements (action.Remove ats) few of_action = tt
action_below splits rule elements (action.Bind var term) few of_action = tt
action_below splits rule elements (action.Write items) few of_action = tt
action_below splits rule elements action.Halt few of_action = tt

grown_below : (splits : List (Option ℕ)) (rule : Rule) (elements : List Element) → HasFewClasses rule → AllByRecursion IsLock (flat_map (grown_regions splits rule elements) rule.actions)
grown_below splits rule elements few =
    Each-flat_map IsLock (grown_regions splits rule elements) rule.actions
    (Each-weaker IsOfFewClasses (λ a. AllByRecursion IsLock (grown_regions splits rule elements a)) (λ a. action_below splits rule elements a few) rule.actions few.actions)

-- so all that a candidate demands is of locks that there are
demands_below : (splits : List (Option ℕ)) (rule : Rule) (candidate : Candidate) → HasFewClasses rule → AllByRecursion IsOfLock (demands splits rule candidate)
demands_below splits rule candidate few =
    let tags = candidate.choice.tags in
    let elements = candidate.elements in
    let matched = in_mode-locks Watch (map stripe tags) (stripes_below tags) in
    let designated = in_mode-locks Own (map stripe (filter_map (slice_get tags) (flat_map designators rule.actions))) (stripes_below (filter_map (slice_get tags) (flat_map designators rule.actions))) in
    let watched = in_mode-locks Watch (flat_map (watched_regions splits rule elements) (negated rule.conds)) (watched_below splits rule elements few) in
    let grown = in_mode-locks Grow (flat_map (grown_regions splits rule elements) rule.actions) (grown_below splits rule elements few) in
    let stripes = Each-append IsOfLock (matched_demands tags) (designated_demands rule tags) matched designated in
    let kept = Each-append IsOfLock (matched_demands tags ++ designated_demands rule tags) (negated_demands splits rule elements) stripes watched in
    Each-append IsOfLock (matched_demands tags ++ designated_demands rule tags ++ negated_demands splits rule elements) (made_demands splits rule elements) kept grown

-- gathering changes no lock
below_by : (first demand : ℕ × Mode) (rest : List (ℕ × Mode)) (less same : Bool) → IsOfLock first → IsOfLock demand → AllByRecursion IsOfLock rest → AllByRecursion IsOfLock (with_demand rest demand)
    → AllByRecursion IsOfLock (if less then demand ∷ first ∷ rest else if same then (first.0, both first.1 demand.1) ∷ rest else first ∷ with_demand rest demand)
below_by first demand rest true same of_first of_demand each later = (of_demand, (of_first, each))
below_by first demand rest false true of_first of_demand each later = (of_first, each)
below_by first demand rest false false of_first of_demand each later = (of_first, later)

with_demand-below : (list : List (ℕ × Mode)) (demand : ℕ × Mode) → AllByRecursion IsOfLock list → IsOfLock demand → AllByRecursion IsOfLock (with_demand list demand)
with_demand-below [] demand each of_demand = (of_demand, tt)
with_demand-below (first ∷ rest) demand each of_demand =
    below_by first demand rest (nat_lt demand.0 first.0) (demand.0 == first.0) each.0 of_demand each.1 (with_demand-below rest demand each.1 of_demand)

with_demands-below : (list demands : List (ℕ × Mode)) → AllByRecursion IsOfLock list → AllByRecursion IsOfLock demands → AllByRecursion IsOfLock (with_demands list demands)
with_demands-below list [] each of_demands = each
with_demands-below list (demand ∷ demands) each of_demands = with_demands-below (with_demand list demand) demands (with_demand-below list demand each of_demands.0) of_demands.1

of_rule : (program : Program) (candidate : Candidate) (o : Option Rule) → slice_get program.rules candidate.choice.rule ≡ o → IsSound program → AllByRecursion IsOfLock (option_map_or (λ (rule : Rule). gathered (demands (splits_of program) rule candidate)) o [])
of_rule program candidate None is sound = tt
of_rule program candidate (Some rule) is sound =
    with_demands-below [] (demands (splits_of program) rule candidate) tt (demands_below (splits_of program) rule candidate (HasFewClasses-sound program candidate.choice.rule rule sound is))

pub footprint_in_range : (program : Program) (candidate : Candidate) → IsSound program → AllByRecursion IsOfLock (footprint program candidate)
footprint_in_range program candidate sound = of_rule program candidate (slice_get program.rules candidate.choice.rule) refl sound

-- gathering leaves none empty
some_by : (first demand : ℕ × Mode) (rest : List (ℕ × Mode)) (less same : Bool) → 0 < length (if less then demand ∷ first ∷ rest else if same then (first.0, both first.1 demand.1) ∷ rest else first ∷ with_demand rest demand)
some_by first demand rest true same = omega arith
some_by first demand rest false true = omega arith
some_by first demand rest false false = omega arith

with_demand-some : (list : List (ℕ × Mode)) (demand : ℕ × Mode) → 0 < length (with_demand list demand)
with_demand-some [] demand = omega arith
with_demand-some (first ∷ rest) demand = some_by first demand rest (nat_lt demand.0 first.0) (demand.0 == first.0)

with_demands-some : (list demands : List (ℕ × Mode)) → 0 < length list → 0 < length (with_demands list demands)
with_demands-some list [] some = some
with_demands-some list (demand ∷ demands) some = with_demands-some (with_demand list demand) demands (with_demand-some list demand)

gathered-some : (splits : List (Option ℕ)) (rule : Rule) (candidate : Candidate) (tags : List ℕ) → candidate.choice.tags ≡ tags → 0 < length tags → 0 < length (gathered (demands splits rule candidate))
gathered-some splits rule candidate [] is some = absurd (omega (arith, some))
gathered-some splits rule candidate (tag ∷ tags) is some =
    let others = negated_demands splits rule candidate.elements ++ made_demands splits rule candidate.elements in
    let first : (more : List ℕ) → more ≡ tag ∷ tags → 0 < length (gathered (matched_demands more ++ designated_demands rule more ++ negated_demands splits rule candidate.elements ++ made_demands splits rule candidate.elements)) =
    λ more same. subst (λ ts. 0 < length (gathered (matched_demands ts ++ designated_demands rule ts ++ negated_demands splits rule candidate.elements ++ made_demands splits rule candidate.elements))) (sym same)
    (with_demands-some ((stripe tag, Watch) ∷ []) (matched_demands tags ++ designated_demands rule (tag ∷ tags) ++ negated_demands splits rule candidate.elements ++ made_demands splits rule candidate.elements) (omega arith)) in
    first candidate.choice.tags is

-- a rule that begins with a positive condition element has one
positive_by : (c : Cond) (conds : List Cond) (negated : Bool) → c.negated ≡ negated → not c.negated ≡ true → 0 < length (positive_classes (c ∷ conds))
positive_by c conds true is begins = absurd (let wrong : true ≡ true = refl in let never : ⊥ = cc in never)
positive_by c conds false is begins = subst (λ b. 0 < length (map (λ (x : Cond). x.class) (if not b then c ∷ positive conds else positive conds))) (sym is) (omega arith)

positives : (conds : List Cond) → begins_positive conds ≡ true → 0 < length (positive_classes conds)
positives [] begins = absurd (let wrong : ⊥ = cc in wrong)
positives (c ∷ conds) begins = positive_by c conds c.negated refl begins

pub length-tags : (elements : List Element) → length (tags_of elements) ≡ length elements
length-tags [] = refl
length-tags (e ∷ elements) = omega (arith, length-tags elements)

fitting : (program : Program) (candidate : Candidate) (o : Option Rule) → slice_get program.rules candidate.choice.rule ≡ o → option_map (λ (rule : Rule). rule.positives) o ≡ Some (length candidate.elements) → IsSound program → tags_of candidate.elements ≡ candidate.choice.tags
    → 0 < length (option_map_or (λ (rule : Rule). gathered (demands (splits_of program) rule candidate)) o [])
fitting program candidate None is positive_count sound tags = absurd (let wrong : ⊥ = cc in wrong)
fitting program candidate (Some rule) is positive_count sound tags =
    let of_rule : IsSoundRule (sizes_of program.classes) rule = Each-slice_get (IsSoundRule (sizes_of program.classes)) program.rules candidate.choice.rule rule sound.sound_rules is in
    let count : rule.positives ≡ length candidate.elements = cc in
    let as_many : length candidate.choice.tags ≡ length candidate.elements = ap length (sym tags) ∙ length-tags candidate.elements in
    gathered-some (splits_of program) rule candidate candidate.choice.tags refl (omega (arith, positives rule.conds of_rule.first_positive, of_rule.positive_count, count, as_many))

pub footprint_not_empty : (program : Program) (candidate : Candidate) → IsSound program → Fits program candidate → 0 < length (footprint program candidate)
footprint_not_empty program candidate sound fits = fitting program candidate (slice_get program.rules candidate.choice.rule) refl fits.positives sound fits.tags
