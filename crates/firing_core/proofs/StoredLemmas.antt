-- A store's parts: what follows of them, and what each change leaves of it.
use Rattle.std.proofs.Common.{◌≡◌, ℕ, ◌+◌, ◌<◌, List, [], ◌∷◌, ◌++◌, Bool, not, cond, ◌==◌, None, Some, length, slice_get, slice_index_or, take, true, false, Option, option_to_list, suc, zero, refl, ap, ◌∙◌, subst, sym, append-nil, append_assoc, arith, length-append}
use Rattle.std.specs.List.{AllByRecursion, filter, filter_map, range_with_len}
use Rattle.std.proofs.Math.Seq.{take-suc}
use Rattle.std.proofs.lemmas.Grind.{flat_map-append}
use Rattle.std.proofs.lemmas.List.Elements.{filter-append}
use Rattle.rule_base.specs.declared.base.Base.{Base}
use Rattle.rule_base.specs.declared.element.Element.{Element}
use Rattle.rule_base.specs.declared.entry.Entry.{Entry}
use Rattle.rule_base.specs.Memory.{Memory, Rises, element_at, tags_of}
use Rattle.rule_base.specs.Opening.{AreConsecutive}
use Rattle.rule_base.specs.declared.instantiation.Choice.{Choice}
use Rattle.rule_base.specs.Effect.{Effect}
use Rattle.rule_base.specs.Step.{born, entry_of, without}
use Rattle.rule_base.proofs.EachLemmas.{Each-append, Each-filter, Each-weaker}
use Rattle.commit_journal.specs.Entries.{born_by, born_in}
use Rattle.commit_journal.proofs.CommitLemmas.{consecutive}
use Rattle.refraction_index.proofs.StillFiredLemmas.{born_in-entry}
use Rattle.working_memory.specs.Memory.{Places}
use Rattle.working_memory.proofs.PlaceLemmas.{below-range}
use Rattle.firing_core.specs.Store.{IsPlaceOf, IsSameBesideMemory, IsStored, Stored, at_places, came, living, living_at, memory_in}
use Rattle.firing_core.proofs.StoreLemmas.{Rises-came, absent-at_places, at_places-append, at_places-more, at_places-new, element_at-places, length-at_places, without-absent, without-append, without-place}
use Rattle.rule_base.specs.Numbers.{has_number}

-- the tags of all that came rise
pub Rises-stored : (base : Base) (entries : List Entry) (next : ℕ) (memory : Places) → IsStored base entries next memory → Rises (tags_of (came base entries))
Rises-stored base entries next memory stored = Rises-came base.next base.elements (born_in entries) stored.rising stored.given stored.born

-- each place in working memory has an element
below-came : (base : Base) (entries : List Entry) (next : ℕ) (memory : Places) → IsStored base entries next memory → AllByRecursion (λ p. p < length (came base entries)) memory.places
below-came base entries next memory stored =
    subst (λ n. AllByRecursion (λ p. p < n) memory.places) (stored.counted ∙ sym (length-append base.elements (born_in entries))) stored.below

-- so there are as many elements as places
pub length-stored : (base : Base) (entries : List Entry) (next : ℕ) (memory : Places) → IsStored base entries next memory → length (at_places (came base entries) memory.places) ≡ length memory.places
length-stored base entries next memory stored = length-at_places (came base entries) memory.places (below-came base entries next memory stored)

-- the element with a tag, where its place is in working memory, where that isn't, and where it has none
pub found_in : (s : Stored) (tag place : ℕ) (has : Bool) → Rises (tags_of (came s.base s.entries)) → IsPlaceOf (came s.base s.entries) tag (Some place) → has ≡ has_number s.places place → element_at (memory_in s) tag ≡ cond has (slice_get (came s.base s.entries) place) None
found_in s tag place has rises is told =
    element_at-places (came s.base s.entries) s.places tag place is.0 rises is.1 is.2
    ∙ ap (λ b. cond b (Some is.0) None) (sym told)
    ∙ ap (λ o. cond has o None) (sym is.1)

pub absent_in : (s : Stored) (tag : ℕ) → IsPlaceOf (came s.base s.entries) tag None → element_at (memory_in s) tag ≡ None
absent_in s tag none = absent-at_places (came s.base s.entries) s.places tag none

-- what goes with a tag: what lies at its place, or nothing
pub without_in : (s : Stored) (tag place : ℕ) → Rises (tags_of (came s.base s.entries)) → IsPlaceOf (came s.base s.entries) tag (Some place) → at_places (came s.base s.entries) (filter (λ p. not (p == place)) s.places) ≡ without (memory_in s) (tag ∷ [])
without_in s tag place rises is = without-place (came s.base s.entries) s.places tag place is.0 rises is.1 is.2

pub without_none : (s : Stored) (tag : ℕ) → IsPlaceOf (came s.base s.entries) tag None → memory_in s ≡ without (memory_in s) (tag ∷ [])
without_none s tag none = sym (without-absent (memory_in s) tag (absent_in s tag none))

-- with fewer places
pub IsStored-fewer : (base : Base) (entries : List Entry) (next place : ℕ) (old new : Places) → IsStored base entries next old → new.came ≡ old.came → new.places ≡ filter (λ p. not (p == place)) old.places → IsStored base entries next new
IsStored-fewer base entries next place old new stored same left =
    let below : AllByRecursion (λ p. p < old.came) (filter (λ p. not (p == place)) old.places) = Each-filter (λ p. p < old.came) (λ p. not (p == place)) old.places stored.below in
    record {
      counted = same ∙ stored.counted;
      below = subst (λ places. AllByRecursion (λ p. p < new.came) places) (sym left) (subst (λ n. AllByRecursion (λ p. p < n) (filter (λ p. not (p == place)) old.places)) (sym same) below);
      rising = stored.rising;
      given = stored.given;
      born = stored.born;
      next_is = stored.next_is;
    }

-- nothing goes with no tags, and what goes with one tag more
pub without_nothing : (memory : Memory) → memory ≡ without memory []
without_nothing [] = refl
without_nothing (e ∷ memory) = ap (λ es. e ∷ es) (without_nothing memory)

pub without_next : (memory now : Memory) (tags : List ℕ) (i : ℕ) → i < length tags → now ≡ without memory (take i tags) → without now (slice_index_or tags i 0 ∷ []) ≡ without memory (take (i + 1) tags)
without_next memory now tags i lt before =
    let tag = slice_index_or tags i 0 in
    let next : suc i ≡ i + 1 = omega arith in
    ap (λ es. without es (tag ∷ [])) before
    ∙ sym (without-append memory (take i tags) (tag ∷ []))
    ∙ ap (without memory) (sym (take-suc tags i 0 lt))
    ∙ ap (λ n. without memory (take n tags)) next

pub IsSame-next : (first second third : Stored) → IsSameBesideMemory first second → IsSameBesideMemory second third → IsSameBesideMemory first third
IsSame-next first second third before after = record {
  base = after.base ∙ before.base;
  entries = after.entries ∙ before.entries;
  next = after.next ∙ before.next;
  room = after.room ∙ before.room;
  fewer = λ place has. before.fewer place (after.fewer place has);
}

-- one place more in a range
range_next : (first n : ℕ) → range_with_len first n ++ (first + n) ∷ [] ≡ range_with_len first (n + 1)
range_next first zero = let same : first + 0 ≡ first = omega arith in ap (λ p. p ∷ []) same
range_next first (suc n) =
    let same : first + suc n ≡ first + 1 + n = omega arith in
    let next : suc (n + 1) ≡ suc n + 1 = omega arith in
    ap (λ p. first ∷ (range_with_len (first + 1) n ++ p ∷ [])) same
    ∙ ap (λ ps. first ∷ ps) (range_next (first + 1) n)
    ∙ ap (range_with_len first) next

pub places_next : (places now : List ℕ) (first last n : ℕ) → now ≡ places ++ range_with_len first n → last ≡ first + n → now ++ last ∷ [] ≡ places ++ range_with_len first (n + 1)
places_next places now first last n before is =
    ap (λ ps. ps ++ last ∷ []) before
    ∙ append_assoc places (range_with_len first n) (last ∷ [])
    ∙ ap (λ p. places ++ (range_with_len first n ++ p ∷ [])) is
    ∙ ap (λ ps. places ++ ps) (range_next first n)

-- the element at a place, where that is in working memory, and where it isn't
pub living_is : (s : Stored) (place : ℕ) (has : Bool) → has ≡ has_number s.places place → option_to_list (cond has (slice_get (came s.base s.entries) place) None) ≡ living s place
living_is s place true told = rw (sym told) (one (slice_get (came s.base s.entries) place) refl)
  where
    one : (o : Option Element) → slice_get (came s.base s.entries) place ≡ o → option_to_list o ≡ at_places (came s.base s.entries) (place ∷ [])
    one None is = rw is refl
    one (Some e) is = rw is refl
living_is s place false told = rw (sym told) refl

-- what lives at slots one behind another
pub living_at-append : (s : Stored) (ps qs : List ℕ) → living_at s (ps ++ qs) ≡ living_at s ps ++ living_at s qs
living_at-append s ps qs =
    let all = came s.base s.entries in
    let has = has_number s.places in
    ap (at_places all) (filter-append has ps qs) ∙ at_places-append all (filter has ps) (filter has qs)

-- the living at one slot more
pub living_next : (s : Stored) (before now : List Element) (slots : List ℕ) (i : ℕ) → i < length slots → now ≡ before ++ living_at s (take i slots) → now ++ living s (slice_index_or slots i 0) ≡ before ++ living_at s (take (i + 1) slots)
living_next s before now slots i lt so_far =
    let slot = slice_index_or slots i 0 in
    let next : suc i ≡ i + 1 = omega arith in
    ap (λ es. es ++ living s slot) so_far
    ∙ append_assoc before (living_at s (take i slots)) (living s slot)
    ∙ ap (λ es. before ++ es) (sym (living_at-append s (take i slots) (slot ∷ []))
    ∙ ap (living_at s) (sym (take-suc slots i 0 lt))
    ∙ ap (λ n. living_at s (take n slots)) next)

-- at the beginning, with the places of the base's elements
pub IsStored-new : (base : Base) (entries : List Entry) (next count : ℕ) (memory : Places) → Rises (tags_of base.elements) → AllByRecursion (λ (e : Element). e.tag < base.next) base.elements → entries ≡ [] → next ≡ base.next → count ≡ length base.elements → memory.places ≡ range_with_len 0 count → memory.came ≡ count → IsStored base entries next memory
IsStored-new base entries next count memory rising given none next_is count_is places_are came_is =
    let born_none : length (born_in entries) ≡ 0 = ap (λ es. length (born_in es)) none in
    record {
      counted = omega (arith, born_none, came_is, count_is);
      below = subst (λ places. AllByRecursion (λ p. p < memory.came) places) (sym places_are) (below-range memory.came 0 count (omega (arith, came_is)));
      rising = rising;
      given = given;
      born = subst (λ es. AreConsecutive base.next (tags_of (born_in es))) (sym none) tt;
      next_is = omega (arith, born_none, next_is);
    }

pub memory-new : (base : Base) (entries : List Entry) (count : ℕ) (places : List ℕ) → entries ≡ [] → count ≡ length base.elements → places ≡ range_with_len 0 count → at_places (came base entries) places ≡ base.elements
memory-new base entries count places none count_is places_are =
    ap (λ es. at_places (came base es) places) none
    ∙ ap (λ es. at_places es places) (append-nil base.elements)
    ∙ ap (at_places base.elements) (places_are ∙ ap (range_with_len 0) count_is)
    ∙ at_places-new [] base.elements

-- consecutive tags, and behind them those that go on from there
consecutive_append : (first : ℕ) (xs ys : List Element) → AreConsecutive first (tags_of xs) → AreConsecutive (first + length xs) (tags_of ys) → AreConsecutive first (tags_of (xs ++ ys))
consecutive_append first [] ys of_xs of_ys =
    let same : first + 0 ≡ first = omega arith in
    subst (λ n. AreConsecutive n (tags_of ys)) same of_ys
consecutive_append first (x ∷ xs) ys of_xs of_ys =
    let same : first + suc (length xs) ≡ first + 1 + length xs = omega arith in
    (of_xs.0, consecutive_append (first + 1) xs ys of_xs.1 (subst (λ n. AreConsecutive n (tags_of ys)) same of_ys))

-- a commit: so many elements come, and the entry tells them
pub record IsCommit (next count : ℕ) (c : Choice) (done : Effect) (entries new_entries : List Entry) (old new : Places) : Type 0 where
  pub counted : count ≡ length (born next done.changes)
  pub entries' : new_entries ≡ entries ++ entry_of next c done ∷ []
  pub places : new.places ≡ old.places ++ range_with_len old.came count
  pub came : new.came ≡ old.came + count

born_in-commit : (next count : ℕ) (c : Choice) (done : Effect) (entries new_entries : List Entry) (old new : Places) → IsCommit next count c done entries new_entries old new → born_in new_entries ≡ born_in entries ++ born next done.changes
born_in-commit next count c done entries new_entries old new is =
    ap born_in is.entries'
    ∙ flat_map-append (λ (e : Entry). filter_map born_by e.changes) entries (entry_of next c done ∷ [])
    ∙ ap (λ es. born_in entries ++ es) (born_in-entry next c done)

-- leaves the parts of a store, and adds those elements to the working memory
pub IsStored-commit : (base : Base) (next new_next count : ℕ) (c : Choice) (done : Effect) (entries new_entries : List Entry) (old new : Places) → IsStored base entries next old → IsCommit next count c done entries new_entries old new → new_next ≡ next + length (born next done.changes) → IsStored base new_entries new_next new
IsStored-commit base next new_next count c done entries new_entries old new stored is next_is' =
    let made = born next done.changes in
    let range = range_with_len old.came count in
    let born_is = born_in-commit next count c done entries new_entries old new is in
    let longer : length (born_in new_entries) ≡ length (born_in entries) + length made = ap length born_is ∙ length-append (born_in entries) made in
    let old_below : AllByRecursion (λ p. p < new.came) old.places = Each-weaker (λ p. p < old.came) (λ p. p < new.came) (λ p lt. omega (arith, lt, is.came)) old.places stored.below in
    let below' : AllByRecursion (λ p. p < new.came) (old.places ++ range) = Each-append (λ p. p < new.came) old.places range old_below (below-range new.came old.came count (omega (arith, is.came))) in
    let of_made : AreConsecutive (base.next + length (born_in entries)) (tags_of made) = subst (λ n. AreConsecutive n (tags_of made)) stored.next_is (consecutive next done.changes) in
    record {
      counted = omega (arith, is.came, is.counted, stored.counted, longer);
      below = subst (λ places. AllByRecursion (λ p. p < new.came) places) (sym is.places) below';
      rising = stored.rising;
      given = stored.given;
      born = subst (λ es. AreConsecutive base.next (tags_of es)) (sym born_is) (consecutive_append base.next (born_in entries) made stored.born of_made);
      next_is = omega (arith, next_is', stored.next_is, longer);
    }

pub memory-commit : (base : Base) (next count : ℕ) (c : Choice) (done : Effect) (entries new_entries : List Entry) (old new : Places) → IsStored base entries next old → IsCommit next count c done entries new_entries old new → at_places (came base new_entries) new.places ≡ at_places (came base entries) old.places ++ born next done.changes
memory-commit base next count c done entries new_entries old new stored is =
    let made = born next done.changes in
    let all = came base entries in
    let range = range_with_len (length all) (length made) in
    let all_is : came base new_entries ≡ all ++ made = ap (λ es. base.elements ++ es) (born_in-commit next count c done entries new_entries old new is) ∙ sym (append_assoc base.elements (born_in entries) made) in
    let counted : old.came ≡ length all = stored.counted ∙ sym (length-append base.elements (born_in entries)) in
    let places_are : new.places ≡ old.places ++ range = is.places ∙ ap (λ n. old.places ++ range_with_len n count) counted ∙ ap (λ n. old.places ++ range_with_len (length all) n) is.counted in
    ap (λ es. at_places es new.places) all_is
    ∙ ap (at_places (all ++ made)) places_are
    ∙ at_places-append (all ++ made) old.places range
    ∙ ap (λ es. es ++ at_places (all ++ made) range) (at_places-more all made old.places (below-came base entries next old stored))
    ∙ ap (λ es. at_places all old.places ++ es) (at_places-new all made)
