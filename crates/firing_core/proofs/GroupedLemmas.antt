-- What groups of places tell: where all places were taken in, a group has each living element with its key.
use Rattle.std.proofs.Common.{◌≡◌, ℕ, ◌<◌, ◌≤◌, List, [], ◌∷◌, ◌++◌, Bool, true, false, ◌||◌, cond, ◌==◌, Option, None, Some, is_some, length, option_to_list, slice_get, suc, zero, refl, ap, ◌∙◌, subst, sym, arith, append_assoc, length-append}
use Rattle.std.specs.List.{AllByRecursion, filter, filter_map, list_any}
use Rattle.std.proofs.lemmas.Bool.{eq-eqb, eqb-true}
use Rattle.std.proofs.lemmas.Grind.{flat_map-append}
use Rattle.std.proofs.lemmas.List.Folds.{list_any-append}
use Rattle.rule_base.specs.declared.base.Base.{Base}
use Rattle.rule_base.specs.declared.condition.Cond.{Cond}
use Rattle.rule_base.specs.declared.entry.Entry.{Entry}
use Rattle.rule_base.specs.declared.element.Element.{Element}
use Rattle.rule_base.specs.Acceptance.{accepts}
use Rattle.rule_base.specs.Bindings.{Bindings}
use Rattle.rule_base.specs.Match.{accepts_some}
use Rattle.rule_base.proofs.EachLemmas.{Each-append}
use Rattle.commit_journal.specs.Entries.{born_by, born_in}
use Rattle.element_tests.specs.Asking.{MayAsk}
use Rattle.working_memory.specs.declared.groups.Key.{Key}
use Rattle.working_memory.specs.Groups.{group, same_key}
use Rattle.working_memory.proofs.PlaceLemmas.{filter-all, has_number-filter}
use Rattle.firing_core.specs.Grouped.{Grouping, IsGroupingOf, IsWholeGroupingOf}
use Rattle.firing_core.specs.PinnedKeys.{is_grouped, pinned_key}
use Rattle.firing_core.specs.Matching.{MayFilter}
use Rattle.firing_core.specs.Store.{IsLater, Stored, at_places, came, living, living_at, memory_in}
use Rattle.firing_core.proofs.KeyLemmas.{HasPinnedKey-accepted}
use Rattle.firing_core.proofs.MatchingLemmas.{Each-split}
use Rattle.firing_core.proofs.StoreLemmas.{at_places-append, get_before}
use Rattle.firing_core.proofs.StoredLemmas.{living_at-append, living_is}
use Rattle.rule_base.specs.Numbers.{has_number}
use Rattle.interference.proofs.WordLemmas.{and_both}

-- tests that hold
or_right : (a b : Bool) → b ≡ true → (a || b) ≡ true
or_right true b is = refl
or_right false b is = is

or_left : (a b : Bool) → a ≡ true → (a || b) ≡ true
or_left true b is = refl
or_left false b is = absurd (let wrong : ⊥ = cc in wrong)

or_false : (a : Bool) → (a || false) ≡ true → a ≡ true
or_false true is = refl
or_false false is = is

same_answer : (a b : Bool) → (a ≡ true → b ≡ true) → (b ≡ true → a ≡ true) → a ≡ b
same_answer true b forth back = sym (forth refl)
same_answer false true forth back = back refl
same_answer false false forth back = refl

-- a place at which a test holds
here_step : (test : ℕ → Bool) (p place : ℕ) (b rest any : Bool) → (p == place) ≡ b → (b || rest) ≡ true → test place ≡ true → (rest ≡ true → any ≡ true) → (test p || any) ≡ true
here_step test p place true rest any is has holds later = or_left (test p) any (ap test (eqb-true p place is) ∙ holds)
here_step test p place false rest any is has holds later = or_right (test p) any (later has)

any_here : (test : ℕ → Bool) (places : List ℕ) (place : ℕ) → has_number places place ≡ true → test place ≡ true → list_any test places ≡ true
any_here test [] place has holds = absurd (let wrong : ⊥ = cc in wrong)
any_here test (p ∷ places) place has holds =
    here_step test p place (p == place) (has_number places place) (list_any test places) refl has holds (λ has'. any_here test places place has' holds)

abbrev Found : (ℕ → Bool) → List ℕ → Type 0
Found test places = (place : ℕ) × (has_number places place ≡ true) × (test place ≡ true)

found_step : (test : ℕ → Bool) (p : ℕ) (places : List ℕ) (b any : Bool) → test p ≡ b → (b || any) ≡ true → (any ≡ true → Found test places) → Found test (p ∷ places)
found_step test p places true any is some later = (p, or_left (p == p) (has_number places p) (eq-eqb p p refl), is)
found_step test p places false any is some later = let found = later some in (found.0, or_right (p == found.0) (has_number places found.0) found.1, found.2)

any_found : (test : ℕ → Bool) (places : List ℕ) → list_any test places ≡ true → Found test places
any_found test [] any = absurd (let wrong : ⊥ = cc in wrong)
any_found test (p ∷ places) any = found_step test p places (test p) (list_any test places) refl any (any_found test places)

any_among : (test : ℕ → Bool) (ps qs : List ℕ) → ((place : ℕ) → has_number ps place ≡ true → test place ≡ true → has_number qs place ≡ true) → list_any test ps ≡ true → list_any test qs ≡ true
any_among test ps qs among any = let found = any_found test ps any in any_here test qs found.0 (among found.0 found.1 found.2) found.2

-- the working memory is what lives at its places
all_here : (ps places : List ℕ) → ((place : ℕ) → has_number ps place ≡ true → has_number places place ≡ true) → AllByRecursion (λ p. has_number places p ≡ true) ps
all_here [] places sub = tt
all_here (p ∷ ps) places sub = (sub p (or_left (p == p) (has_number ps p) (eq-eqb p p refl)), all_here ps places (λ q has. sub q (or_right (p == q) (has_number ps q) has)))

memory_in-living : (s : Stored) → living_at s s.places ≡ memory_in s
memory_in-living s = ap (at_places (came s.base s.entries)) (filter-all (has_number s.places) s.places (all_here s.places s.places (λ p has. has)))

-- some element that lives at places passes where one at some of the places does
any_living : (test : Element → Bool) (s : Stored) (places : List ℕ) → list_any test (living_at s places) ≡ list_any (λ p. list_any test (living s p)) places
any_living test s [] = refl
any_living test s (p ∷ places) =
    ap (list_any test) (living_at-append s (p ∷ []) places)
    ∙ list_any-append test (living s p) (living_at s places)
    ∙ ap (λ b. list_any test (living s p) || b) (any_living test s places)

-- an element that lives at a place
record Lives (s : Stored) (place : ℕ) (e : Element) : Type 0 where
  is : living s place ≡ e ∷ []
  has : has_number s.places place ≡ true
  at : slice_get (came s.base s.entries) place ≡ Some e

lives : (test : Element → Bool) (s : Stored) (place : ℕ) → list_any test (living s place) ≡ true → (e : Element) × Lives s place e × (test e ≡ true)
lives test s place any = by (has_number s.places place) (slice_get (came s.base s.entries) place) refl refl
  where
    by : (has : Bool) (o : Option Element) → has ≡ has_number s.places place → slice_get (came s.base s.entries) place ≡ o → (e : Element) × Lives s place e × (test e ≡ true)
    by true (Some e) has at =
        let is : living s place ≡ e ∷ [] = sym (living_is s place true has) ∙ ap option_to_list at in
        (e, record { is = is; has = sym has; at = at }, or_false (test e) (sym (ap (list_any test) is) ∙ any))
    by true None has at =
        let is : living s place ≡ [] = sym (living_is s place true has) ∙ ap option_to_list at in
        let no : list_any test (living s place) ≡ false = ap (list_any test) is in
        absurd (let wrong : ⊥ = cc in wrong)
    by false o has at =
        let is : living s place ≡ [] = sym (living_is s place false has) in
        let no : list_any test (living s place) ≡ false = ap (list_any test) is in
        absurd (let wrong : ⊥ = cc in wrong)

within_list : {X : Type 0} (xs : List X) (i : ℕ) (x : X) → slice_get xs i ≡ Some x → i < length xs
within_list [] i x at = absurd (let wrong : ⊥ = cc in wrong)
within_list (y ∷ xs) zero x at = omega arith
within_list (y ∷ xs) (suc i) x at = let rest = within_list xs i x at in omega (arith, rest)

-- what holds of each element of the memory holds of one that lives at a place
each_step : (P : Element → Type 0) (all : List Element) (places : List ℕ) (p place : ℕ) (e : Element) (b rest : Bool) → (p == place) ≡ b → (b || rest) ≡ true → AllByRecursion P (at_places all (p ∷ [])) → slice_get all place ≡ Some e → (rest ≡ true → P e) → P e
each_step P all places p place e true rest is has first at later =
    let here : slice_get all p ≡ Some e = ap (slice_get all) (eqb-true p place is) ∙ at in
    let one : at_places all (p ∷ []) ≡ e ∷ [] = rw here refl in
    (subst (AllByRecursion P) one first).0
each_step P all places p place e false rest is has first at later = later has

each_at : (P : Element → Type 0) (all : List Element) (places : List ℕ) (place : ℕ) (e : Element) → AllByRecursion P (at_places all places) → has_number places place ≡ true → slice_get all place ≡ Some e → P e
each_at P all [] place e each has at = absurd (let wrong : ⊥ = cc in wrong)
each_at P all (p ∷ places) place e each has at =
    let parts = Each-split P (at_places all (p ∷ [])) (at_places all places) (subst (AllByRecursion P) (at_places-append all (p ∷ []) places) each) in
    each_step P all places p place e (p == place) (has_number places place) refl has parts.0 at (λ has'. each_at P all places place e parts.1 has' at)

each_living : (P : Element → Type 0) (s : Stored) (place : ℕ) → AllByRecursion P (memory_in s) → AllByRecursion P (living s place)
each_living P s place each = by (has_number s.places place) (slice_get (came s.base s.entries) place) refl refl
  where
    by : (has : Bool) (o : Option Element) → has ≡ has_number s.places place → slice_get (came s.base s.entries) place ≡ o → AllByRecursion P (living s place)
    by true (Some e) has at = subst (AllByRecursion P) (sym (ap option_to_list at) ∙ living_is s place true has) (each_at P (came s.base s.entries) s.places place e each (sym has) at, tt)
    by true None has at = subst (AllByRecursion P) (sym (ap option_to_list at) ∙ living_is s place true has) tt
    by false o has at = subst (AllByRecursion P) (living_is s place false has) tt

all_living : (P : Element → Type 0) (s : Stored) (places : List ℕ) → AllByRecursion P (memory_in s) → AllByRecursion P (living_at s places)
all_living P s [] each = tt
all_living P s (p ∷ places) each =
    subst (AllByRecursion P) (sym (living_at-append s (p ∷ []) places)) (Each-append P (living s p) (living_at s places) (each_living P s p each) (all_living P s places each))

-- so what may be asked of each element of the memory may be asked of those that live at any places
pub MayFilter-places : (c : Cond) (s : Stored) (b : Bindings) (places : List ℕ) → MayFilter c (memory_in s) b → MayFilter c (living_at s places) b
MayFilter-places c s b places may = record { asked = all_living (MayAsk c b) s places may.asked; placed = may.placed }

-- the place of an element that is accepted is in the group of the key to which the condition element pins it
accepted_place : (c : Cond) (s : Stored) (b : Bindings) (g : Grouping) (key : Key) (place : ℕ) → MayFilter c (memory_in s) b → IsWholeGroupingOf g s → pinned_key g.attributes b c ≡ Some key → list_any (λ (e : Element). is_some (accepts c b e)) (living s place) ≡ true → has_number (group g.groups key) place ≡ true
accepted_place c s b g key place may whole pinned any =
    let found = lives (λ (e : Element). is_some (accepts c b e)) s place any in
    let e = found.0 in
    let asked : MayAsk c b e = each_at (MayAsk c b) (came s.base s.entries) s.places place e may.asked found.1.has found.1.at in
    let of_key = HasPinnedKey-accepted g.attributes c b key e pinned asked found.2 in
    let within : place < g.seen = subst (λ n. place < n) (sym whole.whole) (within_list (came s.base s.entries) place e found.1.at) in
    whole.grouping.complete place within key e found.1.is of_key.has of_key.grouped

-- so the group tells whether some element is accepted
pub accepts_some-group : (c : Cond) (s : Stored) (b : Bindings) (g : Grouping) (key : Key) → MayFilter c (memory_in s) b → IsWholeGroupingOf g s → pinned_key g.attributes b c ≡ Some key → accepts_some c b (living_at s (group g.groups key)) ≡ accepts_some c b (memory_in s)
accepts_some-group c s b g key may whole pinned =
    let test : Element → Bool = λ (e : Element). is_some (accepts c b e) in
    let at : ℕ → Bool = λ p. list_any test (living s p) in
    any_living test s (group g.groups key)
    ∙ same_answer (list_any at (group g.groups key)) (list_any at s.places)
    (any_among at (group g.groups key) s.places (λ p has any. (lives test s p any).1.has))
    (any_among at s.places (group g.groups key) (λ p has any. accepted_place c s b g key p may whole pinned any))
    ∙ sym (any_living test s s.places)
    ∙ ap (list_any test) (memory_in-living s)

-- cleaning a group leaves what lives
cleaned_place : (s : Stored) (old new : List ℕ) (same : Bool) (place : ℕ) → new ≡ cond same (filter (has_number s.places) old) old → has_number s.places place ≡ true → has_number old place ≡ true → has_number new place ≡ true
cleaned_place s old new true place is has was = ap (λ ps. has_number ps place) is ∙ has_number-filter (has_number s.places) old place ∙ and_both (has_number s.places place) (has_number old place) has was
cleaned_place s old new false place is has was = ap (λ ps. has_number ps place) is ∙ was

has_living : (s : Stored) (place : ℕ) (e : Element) → living s place ≡ e ∷ [] → has_number s.places place ≡ true
has_living s place e is = (lives (λ x. true) s place (ap (list_any (λ x. true)) is)).1.has

pub IsGrouping-cleaned : (s : Stored) (old new : Grouping) (key : Key) → IsGroupingOf old s → new.seen ≡ old.seen → new.attributes ≡ old.attributes → ((k : Key) → group new.groups k ≡ cond (same_key key k) (filter (has_number s.places) (group old.groups k)) (group old.groups k)) → IsGroupingOf new s
IsGrouping-cleaned s old new key was seen attributes cleaned = record {
  within = omega (arith, seen, was.within);
  complete = λ place lt k e is has grouped.
      cleaned_place s (group old.groups k) (group new.groups k) (same_key key k) place (cleaned k) (has_living s place e is)
      (was.complete place (omega (arith, seen, lt)) k e is has (subst (λ attrs. is_grouped attrs k.class k.attribute ≡ true) attributes grouped));
}

-- what was taken in of a store is taken in of it later on
lives_before : (old new : Stored) (place : ℕ) (e : Element) → IsLater old new → place < length (came old.base old.entries) → Lives new place e → living old place ≡ e ∷ []
lives_before old new place e later lt alive =
    let all = came old.base old.entries in
    let behind = born_in later.more in
    let came_is : came new.base new.entries ≡ all ++ behind =
    (λ i. came (later.base i) (later.entries i)) ∙ ap (λ es. old.base.elements ++ es) (flat_map-append (λ (entry : Entry). filter_map born_by entry.changes) old.entries later.more) ∙ sym (append_assoc old.base.elements (born_in old.entries) behind) in
    let at : slice_get all place ≡ Some e = sym (ap (λ es. slice_get es place) came_is ∙ get_before all behind place lt) ∙ alive.at in
    sym (living_is old place true (sym (later.fewer place lt alive.has))) ∙ ap option_to_list at

longer : (old new : Stored) → IsLater old new → length (came old.base old.entries) ≤ length (came new.base new.entries)
longer old new later =
    let born_is : born_in new.entries ≡ born_in old.entries ++ born_in later.more = ap born_in later.entries ∙ flat_map-append (λ (entry : Entry). filter_map born_by entry.changes) old.entries later.more in
    omega (arith, length-append old.base.elements (born_in old.entries), length-append new.base.elements (born_in new.entries), ap length born_is, length-append (born_in old.entries) (born_in later.more), ap (λ (b : Base). length b.elements) later.base)

pub IsGrouping-later : (g : Grouping) (old new : Stored) → IsLater old new → IsGroupingOf g old → IsGroupingOf g new
IsGrouping-later g old new later was = record {
  within = omega (arith, was.within, longer old new later);
  complete = λ place lt k e is has grouped.
      let found = lives (λ x. true) new place (ap (list_any (λ x. true)) is) in
      let same : found.0 ≡ e = (let one : found.0 ∷ [] ≡ e ∷ [] = sym found.1.is ∙ is in cc) in
      let before = lives_before old new place found.0 later (omega (arith, lt, was.within)) found.1 in
      was.complete place lt k e (before ∙ ap (λ x. x ∷ []) same) has grouped;
}
