-- What a candidate demands: its parts among all its demands, and clashes of two candidates.
use Rattle.std.proofs.Common.{◌≡◌, ℕ, List, [], ◌∷◌, ◌++◌, Bool, true, false, cond, Option, Some, None, ◌⊎◌, inl, inr, filter_map, map, slice_get, refl, sym, ◌∙◌, ap, subst}
use Rattle.std.specs.List.{cons_option, filter, flat_map}
use Rattle.std.specs.Option.{option_map_or}
use Rattle.rule_base.specs.declared.lock.Mode.{Mode}
use Rattle.rule_base.specs.declared.lock.Mode.TheVariants.{Watch, Grow, Own}
use Rattle.rule_base.specs.declared.condition.Cond.{Cond}
use Rattle.rule_base.specs.declared.action.Action.{Action}
use Rattle.rule_base.specs.declared.instantiation.Choice.{Choice}
use Rattle.rule_base.specs.declared.program.Rule.{Rule}
use Rattle.rule_base.specs.declared.program.Program.{Program}
use Rattle.rule_base.specs.Memory.{Memory, elements_at}
use Rattle.rule_base.proofs.AmongLemmas.{Among, Among-append_left, Among-append_right, Among-flat_map, Among-map}
use Rattle.interference.specs.Modes.{asks, goes}
use Rattle.interference.specs.Locks.{stripe}
use Rattle.interference.specs.Given.{negated}
use Rattle.interference.specs.Splits.{splits_of}
use Rattle.interference.specs.Regions.{grown_regions, watched_regions}
use Rattle.interference.specs.Footprint.{Clash, demands, designated_demands, designators, footprint, gathered, made_demands, matched_demands, negated_demands}
use Rattle.interference.specs.PhantomLaw.{ClashIn, with_elements}
use Rattle.interference.proofs.ModeLemmas.{Clash-demands, asks-gathered}

filter_first : {X : Type 0} (p : X → Bool) (x y : X) (xs : List X) (b : Bool) → p y ≡ b → p x ≡ true → (x ≡ y) ⊎ Among x xs → (Among x xs → Among x (filter p xs)) → Among x (cond b (y ∷ filter p xs) (filter p xs))
filter_first p x y xs true is passes (inl same) later = inl same
filter_first p x y xs true is passes (inr rest) later = inr (later rest)
filter_first p x y xs false is passes (inl same) later = absurd (let wrong : false ≡ true = sym is ∙ ap p (sym same) ∙ passes in let never : ⊥ = cc in never)
filter_first p x y xs false is passes (inr rest) later = later rest

-- what passes is among what a filter leaves
pub Among-filter : {X : Type 0} (p : X → Bool) (x : X) (xs : List X) → Among x xs → p x ≡ true → Among x (filter p xs)
Among-filter p x [] among passes = absurd among
Among-filter p x (y ∷ xs) among passes = filter_first p x y xs (p y) refl passes among (λ rest. Among-filter p x xs rest passes)

behind : {Y : Type 0} (y : Y) (o : Option Y) (ys : List Y) → Among y ys → Among y (cons_option o ys)
behind y None ys among = among
behind y (Some w) ys among = inr among

-- and what some element gives is among what all give
pub Among-filter_map : {X Y : Type 0} (f : X → Option Y) (x : X) (y : Y) (xs : List X) → Among x xs → f x ≡ Some y → Among y (filter_map f xs)
Among-filter_map f x y [] among gives = absurd among
Among-filter_map f x y (z ∷ xs) (inl same) gives = subst (λ o. Among y (cons_option o (filter_map f xs))) (sym gives ∙ ap f same) (inl refl)
Among-filter_map f x y (z ∷ xs) (inr later) gives = behind y (f z) (filter_map f xs) (Among-filter_map f x y xs later gives)

-- the demands of a choice with its elements
abbrev pub demands_in : Program → Memory → Rule → Choice → List (ℕ × Mode)
demands_in program memory rule c = demands (splits_of program) rule (with_elements memory c)

-- in the order of the four parts
of_first : {X : Type 0} (x : X) (first second third fourth : List X) → Among x first → Among x (first ++ second ++ third ++ fourth)
of_first x first second third fourth among = Among-append_left x (first ++ second ++ third) fourth (Among-append_left x (first ++ second) third (Among-append_left x first second among))

of_second : {X : Type 0} (x : X) (first second third fourth : List X) → Among x second → Among x (first ++ second ++ third ++ fourth)
of_second x first second third fourth among = Among-append_left x (first ++ second ++ third) fourth (Among-append_left x (first ++ second) third (Among-append_right x first second among))

of_third : {X : Type 0} (x : X) (first second third fourth : List X) → Among x third → Among x (first ++ second ++ third ++ fourth)
of_third x first second third fourth among = Among-append_left x (first ++ second ++ third) fourth (Among-append_right x (first ++ second) third among)

-- the parts of a choice's demands
abbrev negated_of : Program → Memory → Rule → Choice → List (ℕ × Mode)
negated_of program memory rule c = negated_demands (splits_of program) rule (elements_at memory c.tags)

abbrev made_of : Program → Memory → Rule → Choice → List (ℕ × Mode)
made_of program memory rule c = made_demands (splits_of program) rule (elements_at memory c.tags)

-- each tag is watched
pub matched_is_demanded : (program : Program) (memory : Memory) (rule : Rule) (c : Choice) (tag : ℕ) → Among tag c.tags → Among (stripe tag, Watch) (demands_in program memory rule c)
matched_is_demanded program memory rule c tag among =
    of_first (stripe tag, Watch) (matched_demands c.tags) (designated_demands rule c.tags) (negated_of program memory rule c) (made_of program memory rule c)
    (Among-map (λ lock. (lock, Watch)) (stripe tag) (map stripe c.tags) (Among-map stripe tag c.tags among))

-- each designated tag is owned
pub designated_is_demanded : (program : Program) (memory : Memory) (rule : Rule) (c : Choice) (a : Action) (at tag : ℕ) → Among a rule.actions → Among at (designators a) → slice_get c.tags at ≡ Some tag → Among (stripe tag, Own) (demands_in program memory rule c)
designated_is_demanded program memory rule c a at tag of_action designates is =
    let designated = filter_map (slice_get c.tags) (flat_map designators rule.actions) in
    let here : Among tag designated = Among-filter_map (slice_get c.tags) at tag (flat_map designators rule.actions) (Among-flat_map designators a at rule.actions of_action designates) is in
    of_second (stripe tag, Own) (matched_demands c.tags) (designated_demands rule c.tags) (negated_of program memory rule c) (made_of program memory rule c)
    (Among-map (λ lock. (lock, Own)) (stripe tag) (map stripe designated) (Among-map stripe tag designated here))

-- each region of a negated condition element is watched
pub negated_is_demanded : (program : Program) (memory : Memory) (rule : Rule) (c : Choice) (n : Cond) (lock : ℕ) → Among n rule.conds → n.negated ≡ true → Among lock (watched_regions (splits_of program) rule (elements_at memory c.tags) n) → Among (lock, Watch) (demands_in program memory rule c)
negated_is_demanded program memory rule c n lock of_rule is of_region =
    let watched = watched_regions (splits_of program) rule (elements_at memory c.tags) in
    let here : Among lock (flat_map watched (negated rule.conds)) = Among-flat_map watched n lock (negated rule.conds) (Among-filter (λ (x : Cond). x.negated) n rule.conds of_rule is) of_region in
    of_third (lock, Watch) (matched_demands c.tags) (designated_demands rule c.tags) (negated_of program memory rule c) (made_of program memory rule c)
    (Among-map (λ l. (l, Watch)) lock (flat_map watched (negated rule.conds)) here)

-- and each region of an action is grown
pub made_is_demanded : (program : Program) (memory : Memory) (rule : Rule) (c : Choice) (a : Action) (lock : ℕ) → Among a rule.actions → Among lock (grown_regions (splits_of program) rule (elements_at memory c.tags) a) → Among (lock, Grow) (demands_in program memory rule c)
made_is_demanded program memory rule c a lock of_rule of_region =
    let grown = grown_regions (splits_of program) rule (elements_at memory c.tags) in
    Among-append_right (lock, Grow) (matched_demands c.tags ++ designated_demands rule c.tags ++ negated_of program memory rule c) (made_of program memory rule c)
    (Among-map (λ l. (l, Grow)) lock (flat_map grown rule.actions) (Among-flat_map grown a lock rule.actions of_rule of_region))

-- two demands that don't go together are a clash
pub footprint-rule : (program : Program) (memory : Memory) (rule : Rule) (c : Choice) → slice_get program.rules c.rule ≡ Some rule → footprint program (with_elements memory c) ≡ gathered (demands_in program memory rule c)
footprint-rule program memory rule c at = ap (λ o. option_map_or (λ (r : Rule). gathered (demands (splits_of program) r (with_elements memory c))) o []) at

-- so a footprint asks of a lock what the demands do
pub asks-footprint : (program : Program) (memory : Memory) (rule : Rule) (c : Choice) (lock : ℕ) → slice_get program.rules c.rule ≡ Some rule → asks (footprint program (with_elements memory c)) lock ≡ asks (demands_in program memory rule c) lock
asks-footprint program memory rule c lock at = ap (λ f. asks f lock) (footprint-rule program memory rule c at) ∙ asks-gathered (demands_in program memory rule c) lock

pub ClashIn-demands : (program : Program) (memory : Memory) (rule other : Rule) (c d : Choice) (lock : ℕ) (mode beside : Mode) → slice_get program.rules c.rule ≡ Some rule → slice_get program.rules d.rule ≡ Some other
    → Among (lock, mode) (demands_in program memory rule c) → Among (lock, beside) (demands_in program memory other d) → goes mode beside ≡ false → ClashIn program memory c d
ClashIn-demands program memory rule other c d lock mode beside at at_other asked asked_too apart =
    let here = Clash-demands (demands_in program memory rule c) (demands_in program memory other d) lock mode beside asked asked_too apart in
    subst (λ f. Clash f (footprint program (with_elements memory d))) (sym (footprint-rule program memory rule c at))
    (subst (λ f. Clash (gathered (demands_in program memory rule c)) f) (sym (footprint-rule program memory other d at_other)) here)
