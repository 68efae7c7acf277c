-- Which demands a clash comes from, and why those of rules that may not interfere are of two tags on one stripe.
use Rattle.std.proofs.Common.{◌≡◌, ℕ, zero, suc, ◌<◌, List, [], ◌∷◌, ◌++◌, Bool, true, false, cond, not, ◌||◌, Option, Some, None, ◌⊎◌, inl, inr, filter_map, flat_map, length, map, option_to_list, slice_get, ◌==◌, refl, sym, ◌∙◌, ap, subst, arith, true≢false}
use Rattle.std.specs.List.{AllByRecursion, cons_option, list_any, range_with_len}
use Rattle.std.specs.Option.{option_map_or}
use Rattle.std.proofs.lemmas.Bool.Decides.{Decides-eqb}
use Rattle.rule_base.specs.declared.lock.Mode.{Mode}
use Rattle.rule_base.specs.declared.lock.Mode.TheVariants.{Watch, Grow, Own}
use Rattle.rule_base.specs.declared.value.Value.{Value}
use Rattle.rule_base.specs.declared.element.Element.{Element}
use Rattle.rule_base.specs.declared.condition.Cond.{Cond}
use Rattle.rule_base.specs.declared.action.Action.{Action}
use Rattle.rule_base.specs.declared.action.Action.TheVariants as action
use Rattle.rule_base.specs.declared.instantiation.Choice.{Choice}
use Rattle.rule_base.specs.declared.program.Rule.{Rule}
use Rattle.rule_base.specs.declared.program.Program.{Program}
use Rattle.rule_base.specs.Chains.{only_if}
use Rattle.rule_base.specs.Memory.{Memory, Rises, element_at, elements_at, tags_of}
use Rattle.rule_base.specs.Bindings.{Bindings, no_bindings}
use Rattle.rule_base.specs.Sound.{IsSound, IsSoundRule, SoundAction, SoundActions, SoundConds, known_after_action, known_after_cond, known_after_conds, positive_classes, sizes_of}
use Rattle.rule_base.specs.Step.{is_listed}
use Rattle.rule_base.proofs.AmongLemmas.{Among, Among-append_left, Among-append_right, Among-flat_map, Among-map, list_any-among}
use Rattle.rule_base.proofs.EachLemmas.{Each-filter, Each-slice_get}
use Rattle.interference.specs.Modes.{asks, both, goes, joined}
use Rattle.interference.specs.Locks.{region, stripe}
use Rattle.interference.specs.Given.{negated, positive, taken, value_at}
use Rattle.interference.specs.Regions.{grown_regions, known_after, region_locks, regions_by, watched_regions}
use Rattle.interference.specs.Splits.{split_of, splits_of}
use Rattle.interference.specs.Footprint.{designated_demands, designators, footprint, in_mode, made_demands, matched_demands, negated_demands}
use Rattle.interference.specs.PhantomLaw.{ClashIn, with_elements}
use Rattle.interference.specs.MayInterfere.{class_at, class_demands, classes_disagree, classes_of, disagree, grown_classes, may_interfere, rules_interfere, takes_from}
use Rattle.interference.specs.FootprintLaws.{ShareStripe}
use Rattle.interference.proofs.ListLemmas.{Among-append, Each-among, IsAmongOne-flat_map, zip-first}
use Rattle.interference.proofs.ModeLemmas.{IsCovered-among, goes-symmetric}
use Rattle.interference.proofs.BindingLemmas.{IsAccepted-accepts}
use Rattle.interference.proofs.RegionLemmas.{Among-range, region_below, stripe_below}
use Rattle.interference.proofs.WalkLemmas.{Walks, WalksBy}
use Rattle.interference.proofs.MatchedLemmas.{IsMatch-matches, IsMatched-match_of, matches-listed}
use Rattle.interference.proofs.DemandCodeLemmas.{length-sizes, within_by_get}
use Rattle.interference.proofs.DemandLemmas.{Among-filter_map, asks-footprint, demands_in}

-- of two modes in one, what doesn't go with it doesn't go with one of the two
apart_of_both : (a b other : Mode) → goes (both a b) other ≡ false → (goes a other ≡ false) ⊎ (goes b other ≡ false)
apart_of_both Watch Watch Watch apart = absurd (let wrong : ⊥ = cc in wrong)
apart_of_both Watch Watch Grow apart = inl refl
apart_of_both Watch Watch Own apart = inl refl
apart_of_both Watch Grow Watch apart = inr refl
apart_of_both Watch Grow Grow apart = inl refl
apart_of_both Watch Grow Own apart = inl refl
apart_of_both Watch Own Watch apart = inr refl
apart_of_both Watch Own Grow apart = inl refl
apart_of_both Watch Own Own apart = inl refl
apart_of_both Grow Watch Watch apart = inl refl
apart_of_both Grow Watch Grow apart = inr refl
apart_of_both Grow Watch Own apart = inl refl
apart_of_both Grow Grow Watch apart = inl refl
apart_of_both Grow Grow Grow apart = absurd (let wrong : ⊥ = cc in wrong)
apart_of_both Grow Grow Own apart = inl refl
apart_of_both Grow Own Watch apart = inl refl
apart_of_both Grow Own Grow apart = inr refl
apart_of_both Grow Own Own apart = inl refl
apart_of_both Own Watch Watch apart = inl refl
apart_of_both Own Watch Grow apart = inl refl
apart_of_both Own Watch Own apart = inl refl
apart_of_both Own Grow Watch apart = inl refl
apart_of_both Own Grow Grow apart = inl refl
apart_of_both Own Grow Own apart = inl refl
apart_of_both Own Own Watch apart = inl refl
apart_of_both Own Own Grow apart = inl refl
apart_of_both Own Own Own apart = inl refl

-- a demand that doesn't go with a mode
record Demands (demands : List (ℕ × Mode)) (lock : ℕ) (other : Mode) : Type 0 where
  mode : Mode
  there : Among (lock, mode) demands
  apart : goes mode other ≡ false

demands_behind : (first : ℕ × Mode) (demands : List (ℕ × Mode)) (lock : ℕ) (other : Mode) → Demands demands lock other → Demands (first ∷ demands) lock other
demands_behind first demands lock other later = record { mode = later.mode; there = inr later.there; apart = later.apart }

demands_here : (first : ℕ × Mode) (demands : List (ℕ × Mode)) (lock : ℕ) (other : Mode) → first.0 ≡ lock → goes first.1 other ≡ false → Demands (first ∷ demands) lock other
demands_here first demands lock other is apart = record { mode = first.1; there = inl (ap (λ n. (n, first.1)) (sym is)); apart = apart }

by_first : (first : ℕ × Mode) (demands : List (ℕ × Mode)) (lock : ℕ) (mode other : Mode) (here : Bool) (rest : Option Mode) → (first.0 == lock) ≡ here → asks demands lock ≡ rest → joined (only_if here first.1) rest ≡ Some mode → goes mode other ≡ false → ((m : Mode) → asks demands lock ≡ Some m → goes m other ≡ false → Demands demands lock other) → Demands (first ∷ demands) lock other
by_first first demands lock mode other true None is is_rest asked apart later =
    let same : mode ≡ first.1 = cc in
    demands_here first demands lock other ((Decides-eqb first.0 lock).0 is) (ap (λ m. goes m other) (sym same) ∙ apart)
by_first first demands lock mode other true (Some more) is is_rest asked apart later =
    let same : mode ≡ both first.1 more = cc in
    by_side (apart_of_both first.1 more other (ap (λ m. goes m other) (sym same) ∙ apart))
  where
    by_side : (goes first.1 other ≡ false) ⊎ (goes more other ≡ false) → Demands (first ∷ demands) lock other
    by_side (inl of_first) = demands_here first demands lock other ((Decides-eqb first.0 lock).0 is) of_first
    by_side (inr of_more) = demands_behind first demands lock other (later more is_rest of_more)
by_first first demands lock mode other false rest is is_rest asked apart later = demands_behind first demands lock other (later mode (is_rest ∙ asked) apart)

from_asks : (demands : List (ℕ × Mode)) (lock : ℕ) (mode other : Mode) → asks demands lock ≡ Some mode → goes mode other ≡ false → Demands demands lock other
from_asks [] lock mode other asked apart = absurd (let wrong : ⊥ = cc in wrong)
from_asks (first ∷ demands) lock mode other asked apart = by_first first demands lock mode other (first.0 == lock) (asks demands lock) refl refl asked apart (λ m. from_asks demands lock m other)

-- the same of a footprint and the demands of its choice
from_footprint : (program : Program) (memory : Memory) (rule : Rule) (c : Choice) (lock : ℕ) (mode other : Mode) → slice_get program.rules c.rule ≡ Some rule → asks (footprint program (with_elements memory c)) lock ≡ Some mode → goes mode other ≡ false → Demands (demands_in program memory rule c) lock other
from_footprint program memory rule c lock mode other at asked apart = from_asks (demands_in program memory rule c) lock mode other (sym (asks-footprint program memory rule c lock at) ∙ asked) apart

-- a member of a mapped list
record IsMapped {X Y : Type 0} (f : X → Y) (y : Y) (xs : List X) : Type 0 where
  from : X
  there : Among from xs
  is : y ≡ f from

IsMapped-map : {X Y : Type 0} (f : X → Y) (y : Y) (xs : List X) → Among y (map f xs) → IsMapped f y xs
IsMapped-map f y [] among = absurd among
IsMapped-map f y (x ∷ xs) (inl same) = record { from = x; there = inl refl; is = same }
IsMapped-map f y (x ∷ xs) (inr later) = let found = IsMapped-map f y xs later in record { from = found.from; there = inr found.there; is = found.is }

-- a demand of a stripe is of a tag, which is watched or designated
record OfStripe (rule : Rule) (tags : List ℕ) (lock : ℕ) (mode : Mode) : Type 0 where
  tag : ℕ
  is : lock ≡ stripe tag
  there : Among tag tags
  how : (mode ≡ Watch) ⊎ ((at : ℕ) × (Among at (flat_map designators rule.actions) × (slice_get tags at ≡ Some tag)))

-- and one of a region is asked of its class
record OfRegion (rule : Rule) (lock : ℕ) (mode : Mode) : Type 0 where
  class : ℕ
  number : ℕ
  few : number < 16
  is : lock ≡ region class number
  asked : Among (class, mode) (class_demands rule)

-- a demand in one mode
of_mode : (m x : Mode) (lock : ℕ) (locks : List ℕ) → Among (lock, x) (in_mode m locks) → (x ≡ m) × Among lock locks
of_mode m x lock locks among =
    let mapped = IsMapped-map (λ (l : ℕ). (l, m)) (lock, x) locks among in
    (ap (λ (d : ℕ × Mode). d.1) mapped.is, subst (λ l. Among l locks) (sym (ap (λ (d : ℕ × Mode). d.0) mapped.is)) mapped.there)

record IsGiven {X Y : Type 0} (f : X → Option Y) (y : Y) (xs : List X) : Type 0 where
  from : X
  there : Among from xs
  is : f from ≡ Some y

given_first : {X Y : Type 0} (f : X → Option Y) (y : Y) (x : X) (xs : List X) (o : Option Y) → f x ≡ o → (Among y (filter_map f xs) → IsGiven f y xs) → Among y (cons_option o (filter_map f xs)) → IsGiven f y (x ∷ xs)
given_first f y x xs None is rest among = let later = rest among in record { from = later.from; there = inr later.there; is = later.is }
given_first f y x xs (Some z) is rest (inl same) = record { from = x; there = inl refl; is = is ∙ ap (λ w. Some w) (sym same) }
given_first f y x xs (Some z) is rest (inr there) = let later = rest there in record { from = later.from; there = inr later.there; is = later.is }

IsGiven-filter_map : {X Y : Type 0} (f : X → Option Y) (y : Y) (xs : List X) → Among y (filter_map f xs) → IsGiven f y xs
IsGiven-filter_map f y [] among = absurd among
IsGiven-filter_map f y (x ∷ xs) among = given_first f y x xs (f x) refl (IsGiven-filter_map f y xs) among

Among-slice_get : {X : Type 0} (xs : List X) (i : ℕ) (x : X) → slice_get xs i ≡ Some x → Among x xs
Among-slice_get [] i x is = absurd (let wrong : ⊥ = cc in wrong)
Among-slice_get (y ∷ xs) zero x is = let same : x ≡ y = cc in inl same
Among-slice_get (y ∷ xs) (suc i) x is = inr (Among-slice_get xs i x is)

slice_get-among : {X : Type 0} (xs : List X) (x : X) → Among x xs → (i : ℕ) × (slice_get xs i ≡ Some x)
slice_get-among [] x among = absurd among
slice_get-among (y ∷ xs) x (inl same) = (zero, ap (λ z. Some z) (sym same))
slice_get-among (y ∷ xs) x (inr later) = let found = slice_get-among xs x later in (suc found.0, found.1)

slice_get-map : {X Y : Type 0} (f : X → Y) (xs : List X) (i : ℕ) (x : X) → slice_get xs i ≡ Some x → slice_get (map f xs) i ≡ Some (f x)
slice_get-map f [] i x is = absurd (let wrong : ⊥ = cc in wrong)
slice_get-map f (y ∷ xs) zero x is = let same : y ≡ x = cc in ap (λ z. Some (f z)) same
slice_get-map f (y ∷ xs) (suc i) x is = slice_get-map f xs i x is

-- a region that an action grows is of a class of which it makes an element
record IsGrownOf (rule : Rule) (a : Action) (lock : ℕ) : Type 0 where
  class : ℕ
  number : ℕ
  few : number < 16
  is : lock ≡ region class number
  grows : Among class (grown_classes rule.conds a)

of_locks : (splits : List (Option ℕ)) (class : ℕ) (known : ℕ → Option Value) (rule : Rule) (a : Action) (lock : ℕ) → Among class (grown_classes rule.conds a) → Among lock (region_locks splits class known) → IsGrownOf rule a lock
of_locks splits class known rule a lock grows among =
    let mapped = IsMapped-map (region class) lock (regions_by (split_of splits class) known) among in
    record { class = class; number = mapped.from; few = region_below (split_of splits class) known mapped.from mapped.there; is = mapped.is; grows = grows }

among_option : (o : Option ℕ) (n : ℕ) → o ≡ Some n → Among n (option_to_list o)
among_option o n is = subst (λ p. Among n (option_to_list p)) (sym is) (inl refl)

of_pair : (splits : List (Option ℕ)) (rule : Rule) (elements : List Element) (at : ℕ) (settings : List (ℕ × _)) (lock : ℕ) (o : Option (Cond × Element)) → slice_get (taken rule.conds elements) at ≡ o → Among lock (option_map_or (λ (pair : Cond × Element). region_locks splits pair.0.class (λ attr. known_after rule elements attr (value_at pair attr) settings)) o []) → IsGrownOf rule (action.Modify at settings) lock
of_pair splits rule elements at settings lock None is among = absurd among
of_pair splits rule elements at settings lock (Some pair) is among =
    of_locks splits pair.0.class (λ attr. known_after rule elements attr (value_at pair attr) settings) rule (action.Modify at settings) lock
    (among_option (class_at rule.conds at) pair.0.class (slice_get-map (λ (c : Cond). c.class) (positive rule.conds) at pair.0 (zip-first (positive rule.conds) elements at pair is))) among

IsGrownOf-regions : (splits : List (Option ℕ)) (rule : Rule) (elements : List Element) (a : Action) (lock : ℕ) → Among lock (grown_regions splits rule elements a) → IsGrownOf rule a lock
IsGrownOf-regions splits rule elements (action.Make class size settings) lock among = of_locks splits class _ rule (action.Make class size settings) lock (inl refl) among
IsGrownOf-regions splits rule elements (action.Modify at settings) lock among = of_pair splits rule elements at settings lock (slice_get (taken rule.conds elements) at) refl among
IsGrownOf-regions splits rule elements (action.Remove ats) lock among = absurd among
IsGrownOf-regions splits rule elements (action.Bind var term) lock among = absurd among
IsGrownOf-regions splits rule elements (action.Write items) lock among = absurd among
IsGrownOf-regions splits rule elements action.Halt lock among = absurd among

-- where a demand comes from
of_matched : (rule : Rule) (tags : List ℕ) (lock : ℕ) (x : Mode) → Among (lock, x) (matched_demands tags) → OfStripe rule tags lock x
of_matched rule tags lock x among =
    let mode = of_mode Watch x lock (map stripe tags) among in
    let mapped = IsMapped-map stripe lock tags mode.1 in
    record { tag = mapped.from; is = mapped.is; there = mapped.there; how = inl mode.0 }

of_designated : (rule : Rule) (tags : List ℕ) (lock : ℕ) (x : Mode) → Among (lock, x) (designated_demands rule tags) → OfStripe rule tags lock x
of_designated rule tags lock x among =
    let designated = filter_map (slice_get tags) (flat_map designators rule.actions) in
    let mode = of_mode Own x lock (map stripe designated) among in
    let mapped = IsMapped-map stripe lock designated mode.1 in
    let from = IsGiven-filter_map (slice_get tags) mapped.from (flat_map designators rule.actions) mapped.there in
    record { tag = mapped.from; is = mapped.is; there = Among-slice_get tags from.from mapped.from from.is; how = inr (from.from, (from.there, from.is)) }

of_negated : (splits : List (Option ℕ)) (rule : Rule) (elements : List Element) (lock : ℕ) (x : Mode) → Among (lock, x) (negated_demands splits rule elements) → OfRegion rule lock x
of_negated splits rule elements lock x among =
    let mode = of_mode Watch x lock (flat_map (watched_regions splits rule elements) (negated rule.conds)) among in
    let source = IsAmongOne-flat_map (watched_regions splits rule elements) lock (negated rule.conds) mode.1 in
    let mapped = IsMapped-map (region source.source.class) lock (regions_by (split_of splits source.source.class) _) source.among in
    let here : Among (source.source.class, Watch) (in_mode Watch (classes_of (negated rule.conds))) = Among-map (λ (k : ℕ). (k, Watch)) source.source.class (classes_of (negated rule.conds)) (Among-map (λ (c : Cond). c.class) source.source (negated rule.conds) source.there) in
    record {
      class = source.source.class;
      number = mapped.from;
      few = region_below (split_of splits source.source.class) _ mapped.from mapped.there;
      is = mapped.is;
      asked = subst (λ m. Among (source.source.class, m) (class_demands rule)) (sym mode.0)
          (Among-append_left (source.source.class, Watch) (in_mode Watch (classes_of (negated rule.conds))) (in_mode Grow (flat_map (grown_classes rule.conds) rule.actions)) here);
    }

of_made : (splits : List (Option ℕ)) (rule : Rule) (elements : List Element) (lock : ℕ) (x : Mode) → Among (lock, x) (made_demands splits rule elements) → OfRegion rule lock x
of_made splits rule elements lock x among =
    let mode = of_mode Grow x lock (flat_map (grown_regions splits rule elements) rule.actions) among in
    let source = IsAmongOne-flat_map (grown_regions splits rule elements) lock rule.actions mode.1 in
    let grown = IsGrownOf-regions splits rule elements source.source lock source.among in
    let classes = flat_map (grown_classes rule.conds) rule.actions in
    let here : Among (grown.class, Grow) (in_mode Grow classes) = Among-map (λ (k : ℕ). (k, Grow)) grown.class classes (Among-flat_map (grown_classes rule.conds) source.source grown.class rule.actions source.there grown.grows) in
    record {
      class = grown.class;
      number = grown.number;
      few = grown.few;
      is = grown.is;
      asked = subst (λ m. Among (grown.class, m) (class_demands rule)) (sym mode.0)
          (Among-append_right (grown.class, Grow) (in_mode Watch (classes_of (negated rule.conds))) (in_mode Grow classes) here);
    }

origin : (program : Program) (memory : Memory) (rule : Rule) (c : Choice) (lock : ℕ) (x : Mode) → Among (lock, x) (demands_in program memory rule c) → OfStripe rule c.tags lock x ⊎ OfRegion rule lock x
origin program memory rule c lock x among =
    by_four (Among-append (lock, x) (matched_demands c.tags ++ designated_demands rule c.tags ++ negated_demands (splits_of program) rule (elements_at memory c.tags)) (made_demands (splits_of program) rule (elements_at memory c.tags)) among)
  where
    by_two : Among (lock, x) (matched_demands c.tags) ⊎ Among (lock, x) (designated_demands rule c.tags) → OfStripe rule c.tags lock x ⊎ OfRegion rule lock x
    by_two (inl here) = inl (of_matched rule c.tags lock x here)
    by_two (inr there) = inl (of_designated rule c.tags lock x there)

    by_three : Among (lock, x) (matched_demands c.tags ++ designated_demands rule c.tags) ⊎ Among (lock, x) (negated_demands (splits_of program) rule (elements_at memory c.tags)) → OfStripe rule c.tags lock x ⊎ OfRegion rule lock x
    by_three (inl here) = by_two (Among-append (lock, x) (matched_demands c.tags) (designated_demands rule c.tags) here)
    by_three (inr there) = inr (of_negated (splits_of program) rule (elements_at memory c.tags) lock x there)

    by_four : Among (lock, x) (matched_demands c.tags ++ designated_demands rule c.tags ++ negated_demands (splits_of program) rule (elements_at memory c.tags)) ⊎ Among (lock, x) (made_demands (splits_of program) rule (elements_at memory c.tags)) → OfStripe rule c.tags lock x ⊎ OfRegion rule lock x
    by_four (inl here) = by_three (Among-append (lock, x) (matched_demands c.tags ++ designated_demands rule c.tags) (negated_demands (splits_of program) rule (elements_at memory c.tags)) here)
    by_four (inr there) = inr (of_made (splits_of program) rule (elements_at memory c.tags) lock x there)

-- the element of a matched tag is of its condition element's class
record HasClass (conds : List Cond) (memory : Memory) (at tag : ℕ) : Type 0 where
  element : Element
  there : element_at memory tag ≡ Some element
  class : slice_get (classes_of (positive conds)) at ≡ Some element.class

abbrev RestHasClass : Memory → Bindings → List Cond → Type 0
RestHasClass memory last conds = (tags : List ℕ) (bindings : Bindings) → Walks memory last conds tags bindings → (at tag : ℕ) → slice_get tags at ≡ Some tag → HasClass conds memory at tag

class_first : (first : Cond) (conds : List Cond) (memory : Memory) (here at tag : ℕ) (tags : List ℕ) (e : Element) → first.negated ≡ false → element_at memory here ≡ Some e → first.class ≡ e.class → ((n : ℕ) → slice_get tags n ≡ Some tag → HasClass conds memory n tag) → slice_get (here ∷ tags) at ≡ Some tag → HasClass (first ∷ conds) memory at tag
class_first first conds memory here zero tag tags e is found class rest at =
    let same : here ≡ tag = cc in
    record {
      element = e;
      there = ap (element_at memory) (sym same) ∙ found;
      class = ap (λ b. slice_get (classes_of (cond (not b) (first ∷ positive conds) (positive conds))) 0) is ∙ ap (λ n. Some n) class;
    }
class_first first conds memory here (suc n) tag tags e is found class rest at =
    let later = rest n at in
    record {
      element = later.element;
      there = later.there;
      class = ap (λ b. slice_get (classes_of (cond (not b) (first ∷ positive conds) (positive conds))) (suc n)) is ∙ later.class;
    }

class_by_sign : (sign : Bool) (memory : Memory) (last : Bindings) (first : Cond) (conds : List Cond) (tags : List ℕ) (bindings : Bindings) → first.negated ≡ sign → RestHasClass memory last conds → WalksBy sign first memory tags bindings (Walks memory last conds) → (at tag : ℕ) → slice_get tags at ≡ Some tag → HasClass (first ∷ conds) memory at tag
class_by_sign true memory last first conds tags bindings is rest walks at tag at_is =
    let later = rest tags bindings walks.1 at tag at_is in
    record {
      element = later.element;
      there = later.there;
      class = ap (λ b. slice_get (classes_of (cond (not b) (first ∷ positive conds) (positive conds))) at) is ∙ later.class;
    }
class_by_sign false memory last first conds [] bindings is rest walks at tag at_is = absurd walks
class_by_sign false memory last first conds (here ∷ tags) bindings is rest walks at tag at_is =
    let accepted = IsAccepted-accepts first bindings walks.element walks.after walks.accepted in
    class_first first conds memory here at tag tags walks.element is walks.at ((Decides-eqb first.class walks.element.class).0 accepted.class) (λ n. rest tags walks.after walks.rest n tag) at_is

HasClass-walk : (memory : Memory) (last : Bindings) (conds : List Cond) → RestHasClass memory last conds
HasClass-walk memory last [] [] bindings walks at tag is = absurd (let wrong : ⊥ = cc in wrong)
HasClass-walk memory last [] (t ∷ tags) bindings walks at tag is = absurd walks
HasClass-walk memory last (first ∷ conds) tags bindings walks at tag is = class_by_sign first.negated memory last first conds tags bindings refl (HasClass-walk memory last conds) walks at tag is

-- a tag that one rule designates and the other matches: one takes from the other
takes_same : (one other : Rule) (memory : Memory) (tags more : List ℕ) (last last_too : Bindings) (at tag : ℕ) → Walks memory last one.conds tags (no_bindings one.vars) → Walks memory last_too other.conds more (no_bindings other.vars) → Among at (flat_map designators one.actions) → slice_get tags at ≡ Some tag → Among tag more → takes_from one other ≡ true
takes_same one other memory tags more last last_too at tag walks walks_too designates is among =
    let mine = HasClass-walk memory last one.conds tags (no_bindings one.vars) walks at tag is in
    let place = slice_get-among more tag among in
    let theirs = HasClass-walk memory last_too other.conds more (no_bindings other.vars) walks_too place.0 tag place.1 in
    let same : Some theirs.element ≡ Some mine.element = sym theirs.there ∙ mine.there in
    let element_is : theirs.element ≡ mine.element = cc in
    let class = mine.element.class in
    let of_class : Among class (classes_of (positive other.conds)) = Among-slice_get (classes_of (positive other.conds)) place.0 class (theirs.class ∙ ap (λ (e : Element). Some e.class) element_is) in
    list_any-among (λ k. list_any (λ n. n == k) (classes_of (positive other.conds))) class (filter_map (class_at one.conds) (flat_map designators one.actions))
    (Among-filter_map (class_at one.conds) at class (flat_map designators one.actions) designates mine.class)
    (list_any-among (λ n. n == class) class (classes_of (positive other.conds)) of_class ((Decides-eqb class class).1 refl))

-- the classes of which a sound rule demands something are there
conds_within : (sizes : List ℕ) (vars : ℕ) (known : List ℕ) (conds : List Cond) → SoundConds sizes vars known conds → AllByRecursion (λ (c : Cond). c.class < length sizes) conds
conds_within sizes vars known [] sound = tt
conds_within sizes vars known (c ∷ conds) sound = (sound.0, conds_within sizes vars (known_after_cond c.negated known c.tests) conds sound.2)

of_option : (o : Option ℕ) (n : ℕ) → Among n (option_to_list o) → o ≡ Some n
of_option None n among = absurd among
of_option (Some m) n (inl same) = ap (λ k. Some k) (sym same)
of_option (Some m) n (inr never) = absurd never

grown_within : (sizes classes : List ℕ) (vars : ℕ) (known : List ℕ) (conds : List Cond) (a : Action) (class : ℕ) → AllByRecursion (λ (c : Cond). c.class < length sizes) conds → SoundAction sizes classes vars known a → Among class (grown_classes conds a) → class < length sizes
grown_within sizes classes vars known conds (action.Make made size settings) class within sound (inl same) = subst (λ k. k < length sizes) (sym same) (within_by_get sizes made size sound.0)
grown_within sizes classes vars known conds (action.Make made size settings) class within sound (inr never) = absurd never
grown_within sizes classes vars known conds (action.Modify at settings) class within sound among =
    let mapped = IsMapped-map (λ (c : Cond). c.class) class (positive conds) (Among-slice_get (classes_of (positive conds)) at class (of_option (class_at conds at) class among)) in
    subst (λ k. k < length sizes) (sym mapped.is) (Each-among (λ (c : Cond). c.class < length sizes) (positive conds) mapped.from (Each-filter (λ (c : Cond). c.class < length sizes) (λ (c : Cond). not c.negated) conds within) mapped.there)
grown_within sizes classes vars known conds (action.Remove ats) class within sound among = absurd among
grown_within sizes classes vars known conds (action.Bind var term) class within sound among = absurd among
grown_within sizes classes vars known conds (action.Write items) class within sound among = absurd among
grown_within sizes classes vars known conds action.Halt class within sound among = absurd among

actions_within : (sizes classes : List ℕ) (vars : ℕ) (known : List ℕ) (conds : List Cond) (actions : List Action) (class : ℕ) → AllByRecursion (λ (c : Cond). c.class < length sizes) conds → SoundActions sizes classes vars known actions → Among class (flat_map (grown_classes conds) actions) → class < length sizes
actions_within sizes classes vars known conds [] class within sound among = absurd among
actions_within sizes classes vars known conds (a ∷ actions) class within sound among =
    by_side (Among-append class (grown_classes conds a) (flat_map (grown_classes conds) actions) among) (actions_within sizes classes vars (known_after_action known a) conds actions class within sound.1)
  where
    by_side : Among class (grown_classes conds a) ⊎ Among class (flat_map (grown_classes conds) actions) → (Among class (flat_map (grown_classes conds) actions) → class < length sizes) → class < length sizes
    by_side (inl here) later = grown_within sizes classes vars known conds a class within sound.0 here
    by_side (inr there) later = later there

class_within : (sizes : List ℕ) (rule : Rule) (class : ℕ) (x : Mode) → IsSoundRule sizes rule → Among (class, x) (class_demands rule) → class < length sizes
class_within sizes rule class x sound among =
    by_side (Among-append (class, x) (in_mode Watch (classes_of (negated rule.conds))) (in_mode Grow (flat_map (grown_classes rule.conds) rule.actions)) among) (conds_within sizes rule.vars [] rule.conds sound.sound_conds)
  where
    by_side : Among (class, x) (in_mode Watch (classes_of (negated rule.conds))) ⊎ Among (class, x) (in_mode Grow (flat_map (grown_classes rule.conds) rule.actions)) → AllByRecursion (λ (c : Cond). c.class < length sizes) rule.conds → class < length sizes
    by_side (inl here) within =
        let mapped = IsMapped-map (λ (c : Cond). c.class) class (negated rule.conds) (of_mode Watch x class (classes_of (negated rule.conds)) here).1 in
        subst (λ k. k < length sizes) (sym mapped.is) (Each-among (λ (c : Cond). c.class < length sizes) (negated rule.conds) mapped.from (Each-filter (λ (c : Cond). c.class < length sizes) (λ (c : Cond). c.negated) rule.conds within) mapped.there)
    by_side (inr there) within =
        actions_within sizes (positive_classes rule.conds) rule.vars (known_after_conds [] rule.conds) rule.conds rule.actions class within sound.sound_actions (of_mode Grow x class (flat_map (grown_classes rule.conds) rule.actions) there).1

-- two demands of one class that don't go together
modes_disagree : (one other : Rule) (class : ℕ) (x y : Mode) → Among (class, x) (class_demands one) → Among (class, y) (class_demands other) → goes x y ≡ false → disagree (asks (class_demands one) class) (asks (class_demands other) class) ≡ true
modes_disagree one other class x y asked asked_too apart =
    let wide = IsCovered-among (class_demands one) class x asked in
    let wide_too = IsCovered-among (class_demands other) class y asked_too in
    let apart_too : goes wide_too.asked wide.asked ≡ false = wide_too.covers wide.asked (goes-symmetric y wide.asked ∙ wide.covers y apart) in
    ap (λ o. disagree o (asks (class_demands other) class)) wide.is ∙ ap (disagree (Some wide.asked)) wide_too.is ∙ ap not (goes-symmetric wide.asked wide_too.asked ∙ apart_too)

classes_clash : (count : ℕ) (one other : Rule) (class : ℕ) (x y : Mode) → class < count → Among (class, x) (class_demands one) → Among (class, y) (class_demands other) → goes x y ≡ false → classes_disagree count one other ≡ true
classes_clash count one other class x y within asked asked_too apart =
    list_any-among (λ k. disagree (asks (class_demands one) k) (asks (class_demands other) k)) class (range_with_len 0 count) (Among-range 0 count class (omega arith) (omega (arith, within))) (modes_disagree one other class x y asked asked_too apart)

-- two rules that may not interfere
three_false : (a b c : Bool) → (a || b || c) ≡ false → (a ≡ false) × ((b ≡ false) × (c ≡ false))
three_false false false false is = (refl, (refl, refl))
three_false false false true is = absurd (let wrong : ⊥ = cc in wrong)
three_false false true c is = absurd (let wrong : ⊥ = cc in wrong)
three_false true b c is = absurd (let wrong : ⊥ = cc in wrong)

record Apart (count : ℕ) (one other : Rule) : Type 0 where
  classes : classes_disagree count one other ≡ false
  one_takes : takes_from one other ≡ false
  other_takes : takes_from other one ≡ false

Apart-rules : (program : Program) (one other : Rule) (a b : ℕ) → slice_get program.rules a ≡ Some one → slice_get program.rules b ≡ Some other → may_interfere program a b ≡ false → Apart (length program.classes) one other
Apart-rules program one other a b at at_other never =
    let count = length program.classes in
    let is : rules_interfere count one other ≡ false =
    sym (ap (λ o. option_map_or (λ (r : Rule). option_map_or (λ (q : Rule). rules_interfere count r q) (slice_get program.rules b) false) o false) at
    ∙ ap (λ o. option_map_or (λ (q : Rule). rules_interfere count one q) o false) at_other) ∙ never in
    let three = three_false (classes_disagree count one other) (takes_from one other) (takes_from other one) is in
    record { classes = three.0; one_takes = three.1.0; other_takes = three.1.1 }

share : (lock : ℕ) (one other : List ℕ) (tag beside : ℕ) → Among tag one → Among beside other → lock ≡ stripe tag → lock ≡ stripe beside → (tag ≡ beside → ⊥) → ShareStripe lock one other
share lock one other tag beside of_one of_other is is_too differ = record {
  tag = tag;
  beside = beside;
  of_one = list_any-among (λ t. t == tag) tag one of_one ((Decides-eqb tag tag).1 refl);
  of_other = list_any-among (λ t. t == beside) beside other of_other ((Decides-eqb beside beside).1 refl);
  differ = differ;
  here = sym is;
  here_too = sym is_too;
}

-- two stripes
stripes : (one other : Rule) (memory : Memory) (tags more : List ℕ) (last last_too : Bindings) (count lock : ℕ) (x y : Mode) → Walks memory last one.conds tags (no_bindings one.vars) → Walks memory last_too other.conds more (no_bindings other.vars) → Apart count one other → goes x y ≡ false → OfStripe one tags lock x → OfStripe other more lock y → ShareStripe lock tags more
stripes one other memory tags more last last_too count lock x y walks walks_too apart apart_modes mine theirs = share lock tags more mine.tag theirs.tag mine.there theirs.there mine.is theirs.is (differ mine.how theirs.how)
  where
    differ : (x ≡ Watch) ⊎ ((at : ℕ) × (Among at (flat_map designators one.actions) × (slice_get tags at ≡ Some mine.tag))) → (y ≡ Watch) ⊎ ((at : ℕ) × (Among at (flat_map designators other.actions) × (slice_get more at ≡ Some theirs.tag))) → mine.tag ≡ theirs.tag → ⊥
    differ (inr takes) how same = true≢false (sym (takes_same one other memory tags more last last_too takes.0 mine.tag walks walks_too takes.1.0 takes.1.1 (subst (λ t. Among t more) (sym same) theirs.there)) ∙ apart.one_takes)
    differ (inl watched) (inr takes) same = true≢false (sym (takes_same other one memory more tags last_too last takes.0 theirs.tag walks_too walks takes.1.0 takes.1.1 (subst (λ t. Among t tags) same mine.there)) ∙ apart.other_takes)
    differ (inl watched) (inl watched_too) same = true≢false (sym (ap (λ m. goes m y) watched ∙ ap (goes Watch) watched_too) ∙ apart_modes)

-- two regions
regions : (count : ℕ) (one other : Rule) (lock : ℕ) (x y : Mode) → ((class : ℕ) → Among (class, x) (class_demands one) → class < count) → Apart count one other → goes x y ≡ false → OfRegion one lock x → OfRegion other lock y → ⊥
regions count one other lock x y within apart apart_modes mine theirs =
    let same : theirs.class ≡ mine.class = omega (arith, mine.is, theirs.is, mine.few, theirs.few) in
    true≢false (sym (classes_clash count one other mine.class x y (within mine.class mine.asked) mine.asked (subst (λ k. Among (k, y) (class_demands other)) same theirs.asked) apart_modes) ∙ apart.classes)

-- a stripe is no region
stripe_no_region : (one other : Rule) (tags : List ℕ) (lock : ℕ) (x y : Mode) → OfStripe one tags lock x → OfRegion other lock y → ⊥
stripe_no_region one other tags lock x y mine theirs = omega (arith, mine.is, stripe_below mine.tag, theirs.is)

by_origins : (one other : Rule) (memory : Memory) (tags more : List ℕ) (last last_too : Bindings) (count lock : ℕ) (x y : Mode) → Walks memory last one.conds tags (no_bindings one.vars) → Walks memory last_too other.conds more (no_bindings other.vars) → ((class : ℕ) → Among (class, x) (class_demands one) → class < count) → Apart count one other → goes x y ≡ false → OfStripe one tags lock x ⊎ OfRegion one lock x → OfStripe other more lock y ⊎ OfRegion other lock y → ShareStripe lock tags more
by_origins one other memory tags more last last_too count lock x y walks walks_too within apart apart_modes (inl mine) (inl theirs) = stripes one other memory tags more last last_too count lock x y walks walks_too apart apart_modes mine theirs
by_origins one other memory tags more last last_too count lock x y walks walks_too within apart apart_modes (inl mine) (inr theirs) = absurd (stripe_no_region one other tags lock x y mine theirs)
by_origins one other memory tags more last last_too count lock x y walks walks_too within apart apart_modes (inr mine) (inl theirs) = absurd (stripe_no_region other one more lock y x theirs mine)
by_origins one other memory tags more last last_too count lock x y walks walks_too within apart apart_modes (inr mine) (inr theirs) = absurd (regions count one other lock x y within apart apart_modes mine theirs)

-- choices of rules that may not interfere clash at most because different tags share a stripe
pub ShareStripe-clash : (program : Program) (memory : Memory) (c d : Choice) → IsSound program → Rises (tags_of memory) → is_listed program memory c ≡ true → is_listed program memory d ≡ true → may_interfere program c.rule d.rule ≡ false → (clash : ClashIn program memory c d) → ShareStripe clash.lock c.tags d.tags
ShareStripe-clash program memory c d sound rises listed listed_too never clash =
    let match = IsMatch-matches program memory c (matches-listed program memory c rises listed) in
    let match_too = IsMatch-matches program memory d (matches-listed program memory d rises listed_too) in
    let sizes = sizes_of program.classes in
    let of_rule = Each-slice_get (IsSoundRule sizes) program.rules c.rule match.rule sound.sound_rules match.at in
    let of_other = Each-slice_get (IsSoundRule sizes) program.rules d.rule match_too.rule sound.sound_rules match_too.at in
    let matched = IsMatched-match_of sizes match.rule c.tags memory match.last of_rule match.is in
    let matched_too = IsMatched-match_of sizes match_too.rule d.tags memory match_too.last of_other match_too.is in
    let first = from_footprint program memory match.rule c clash.lock clash.mode clash.beside match.at clash.asked clash.apart in
    let second = from_footprint program memory match_too.rule d clash.lock clash.beside first.mode match_too.at clash.asked_too (goes-symmetric clash.beside first.mode ∙ first.apart) in
    by_origins match.rule match_too.rule memory c.tags d.tags match.last match_too.last (length program.classes) clash.lock first.mode second.mode matched.walks matched_too.walks
    (λ class of_class. omega (arith, class_within sizes match.rule class first.mode of_rule of_class, length-sizes program.classes))
    (Apart-rules program match.rule match_too.rule c.rule d.rule match.at match_too.at never) (goes-symmetric first.mode second.mode ∙ second.apart)
    (origin program memory match.rule c clash.lock first.mode first.there) (origin program memory match_too.rule d clash.lock second.mode second.there)
