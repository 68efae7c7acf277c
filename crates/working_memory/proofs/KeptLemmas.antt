-- Slots with flags: which places they say are there, and what each change leaves of them.
use Rattle.std.proofs.Common.{◌≡◌, ◌≢◌, inl, inr, ℕ, ◌+◌, ◌-◌, ◌<◌, ◌≤◌, List, [], ◌∷◌, ◌++◌, length, Bool, true, false, not, cond, ◌&&◌, ◌||◌, ◌==◌, set, suc, refl, ap, sym, ◌∙◌, arith, length-append}
use Rattle.std.specs.List.{AllByRecursion, filter, range_with_len}
use Rattle.std.proofs.Math.ListN.{replicate}
use Rattle.std.proofs.Math.Seq.{get_or-append_seam}
use Rattle.std.proofs.lemmas.Bool.{cases_lt, eqb-true}
use Rattle.std.proofs.lemmas.Bool.Decides.{nat_tests}
use Rattle.std.proofs.lemmas.List.{get_or_append_left, get_or_past, get_or-replicate, get_or-set_other, get_or-set_same, length-replicate, length-set}
use Rattle.std.proofs.lemmas.List.Elements.{filter-append}
use Rattle.std.proofs.lemmas.List.Folds.{list_any-append}
use Rattle.std.proofs.lemmas.List.FromFn.{length-range_with_len}
use Rattle.rule_base.specs.Memory.{Rises}
use Rattle.rule_base.proofs.EachLemmas.{Each-always, Each-append, Each-filter, Each-filtered, Each-weaker}
use Rattle.working_memory.specs.Memory.{IsKept, is_here}
use Rattle.working_memory.proofs.PlaceLemmas.{Rises-filter, Rises-once, Rises-push, Rises-range, below-range, filter-agree, filter-all, filter-both, has_number-filter, has_number-range}
use Rattle.rule_base.specs.Numbers.{has_number}

-- no more are there than there are slots
fewer_step : {X : Type 0} (b : Bool) (x : X) (xs : List X) (n : ℕ) → length xs ≤ n → length (cond b (x ∷ xs) xs) ≤ suc n
fewer_step true x xs n le = omega (arith, le)
fewer_step false x xs n le = omega (arith, le)

filter-fewer : {X : Type 0} (f : X → Bool) (xs : List X) → length (filter f xs) ≤ length xs
filter-fewer f [] = omega arith
filter-fewer f (x ∷ xs) = fewer_step (f x) x (filter f xs) (length xs) (filter-fewer f xs)

pub kept_count : (slots : List ℕ) (here : List Bool) (count : ℕ) → IsKept slots here count → count ≤ length slots
kept_count slots here count kept = omega (arith, kept.living, filter-fewer (is_here here) slots)

-- the flags tell whether a place is there
kept_step : (b : Bool) (rest : Bool) → (b ≡ true → rest ≡ true) → (b && rest) ≡ b
kept_step true rest here = here refl
kept_step false rest here = refl

pub kept_has : (slots : List ℕ) (here : List Bool) (count place : ℕ) → IsKept slots here count → has_number (filter (is_here here) slots) place ≡ is_here here place
kept_has slots here count place kept = has_number-filter (is_here here) slots place ∙ kept_step (is_here here place) (has_number slots place) (kept.held place)

pub kept_slots : (slots : List ℕ) (here : List Bool) (count : ℕ) → IsKept slots here count → filter (has_number (filter (is_here here) slots)) slots ≡ filter (is_here here) slots
kept_slots slots here count kept = filter-agree (has_number (filter (is_here here) slots)) (is_here here) slots (Each-always _ (λ place. kept_has slots here count place kept) slots)

-- the flag of a place that is there is set
pub flag_set : (slots : List ℕ) (here : List Bool) (count place : ℕ) (places : List ℕ) (found : Bool) → IsKept slots here count → filter (is_here here) slots ≡ places → found ≡ has_number places place → found ≡ true → is_here here place ≡ true
flag_set slots here count place places found kept view told is = sym (kept_has slots here count place kept) ∙ ap (λ ps. has_number ps place) view ∙ sym told ∙ is

-- the places that are there rise, and each came
pub kept_rises : (slots : List ℕ) (here : List Bool) (count : ℕ) → IsKept slots here count → Rises (filter (is_here here) slots) × AllByRecursion (λ p. p < length here) (filter (is_here here) slots)
kept_rises slots here count kept = (Rises-filter (is_here here) slots kept.rising, Each-filter (λ p. p < length here) (is_here here) slots kept.below)

-- a flag that is set is one of the flags
pub is_here-within : (here : List Bool) (place : ℕ) → is_here here place ≡ true → place < length here
is_here-within here place is = elim (cases_lt place (length here)) [ inl lt ↦ lt | inr le ↦ absurd (let past = get_or_past here place false le in let wrong : ⊥ = cc in wrong) ]

-- all of the first so many are there
new_places : (count : ℕ) → filter (is_here (replicate count true)) (range_with_len 0 count) ≡ range_with_len 0 count
new_places count =
    filter-all (is_here (replicate count true)) (range_with_len 0 count)
    (Each-weaker (λ p. p < count) (λ p. is_here (replicate count true) p ≡ true) (λ p lt. get_or-replicate count p true false lt) (range_with_len 0 count) (below-range count 0 count (omega arith)))

new_kept : (count : ℕ) → IsKept (range_with_len 0 count) (replicate count true) count
new_kept count = record {
  rising = Rises-range 0 count;
  below = below-range (length (replicate count true)) 0 count (omega (arith, length-replicate count true));
  held = λ place is. has_number-range 0 count place (omega arith) (omega (arith, is_here-within (replicate count true) place is, length-replicate count true));
  living = sym (ap length (new_places count) ∙ length-range_with_len 0 count);
}

pub places-new : (slots : List ℕ) (here : List Bool) (count : ℕ) → slots ≡ range_with_len 0 count → here ≡ replicate count true → filter (is_here here) slots ≡ range_with_len 0 count
places-new slots here count of_slots of_here = rw (of_slots, of_here) (new_places count)

pub IsKept-new : (slots : List ℕ) (here : List Bool) (count : ℕ) → slots ≡ range_with_len 0 count → here ≡ replicate count true → IsKept slots here count
IsKept-new slots here count of_slots of_here = rw (of_slots, of_here) (new_kept count)

-- the next one is there
is_here-next : (here : List Bool) → is_here (here ++ true ∷ []) (length here) ≡ true
is_here-next here = get_or-append_seam here true [] false

push_places : (slots : List ℕ) (here : List Bool) → AllByRecursion (λ p. p < length here) slots → filter (is_here (here ++ true ∷ [])) (slots ++ length here ∷ []) ≡ filter (is_here here) slots ++ length here ∷ []
push_places slots here below =
    let f = is_here (here ++ true ∷ []) in
    let last : filter f (length here ∷ []) ≡ length here ∷ [] = filter-all f (length here ∷ []) (is_here-next here, tt) in
    let first : filter f slots ≡ filter (is_here here) slots = filter-agree f (is_here here) slots (Each-weaker (λ p. p < length here) (λ p. f p ≡ is_here here p) (λ p lt. get_or_append_left here (true ∷ []) false p lt) slots below) in
    filter-append f slots (length here ∷ []) ∙ ap (λ xs. filter f slots ++ xs) last ∙ ap (λ xs. xs ++ length here ∷ []) first

held_step : (b : Bool) (place last : ℕ) (rest : Bool) → (last == place) ≡ b → (place < last → rest ≡ true) → place < last + 1 → (rest || (b || false)) ≡ true
held_step true place last true is before lt = refl
held_step true place last false is before lt = refl
held_step false place last rest is before lt = let here : rest ≡ true = before (grind (arith, nat_tests)) in rw here refl

push_kept : (slots : List ℕ) (here : List Bool) (count : ℕ) → IsKept slots here count → IsKept (slots ++ length here ∷ []) (here ++ true ∷ []) (count + 1)
push_kept slots here count kept =
    let more = here ++ true ∷ [] in
    let longer : length more ≡ length here + 1 = length-append here (true ∷ []) in
    record {
      rising = Rises-push (length here) slots kept.rising kept.below;
      below = Each-append (λ p. p < length more) slots (length here ∷ []) (Each-weaker (λ p. p < length here) (λ p. p < length more) (λ p lt. omega (arith, lt, longer)) slots kept.below) (omega (arith, longer), tt);
      held = λ place is.
          list_any-append (λ p. p == place) slots (length here ∷ [])
          ∙ held_step (length here == place) place (length here) (has_number slots place) refl (λ lt. kept.held place (sym (get_or_append_left here (true ∷ []) false place lt) ∙ is)) (omega (arith, is_here-within more place is, longer));
      living = omega (arith, kept.living, ap length (push_places slots here kept.below), length-append (filter (is_here here) slots) (length here ∷ []));
    }

pub places-push : (slots slots' : List ℕ) (here here' : List Bool) (count last : ℕ) → IsKept slots here count → last ≡ length here → slots' ≡ slots ++ last ∷ [] → here' ≡ here ++ true ∷ [] → filter (is_here here') slots' ≡ filter (is_here here) slots ++ length here ∷ []
places-push slots slots' here here' count last kept at of_slots of_here = rw (of_slots, at, of_here) (push_places slots here kept.below)

pub IsKept-push : (slots slots' : List ℕ) (here here' : List Bool) (count last : ℕ) → IsKept slots here count → last ≡ length here → slots' ≡ slots ++ last ∷ [] → here' ≡ here ++ true ∷ [] → IsKept slots' here' (count + 1)
IsKept-push slots slots' here here' count last kept at of_slots of_here = rw (of_slots, at, of_here) (push_kept slots here count kept)

-- one has gone
gone_step : (b : Bool) (here : List Bool) (place p : ℕ) → (p == place) ≡ b → place < length here → is_here (set here place false) p ≡ (not b && is_here here p)
gone_step true here place p is within =
    let same : p ≡ place = eqb-true p place is in
    rw same (get_or-set_same here place false false within)
gone_step false here place p is within =
    let other : p ≢ place = grind (arith, nat_tests) in
    get_or-set_other here place p false false other

pub places-removed : (slots : List ℕ) (here : List Bool) (place : ℕ) → place < length here → filter (is_here (set here place false)) slots ≡ filter (λ p. not (p == place)) (filter (is_here here) slots)
places-removed slots here place within = filter-both (λ p. not (p == place)) (is_here here) (is_here (set here place false)) slots (Each-always _ (λ p. gone_step (p == place) here place p refl within) slots)

and_step : (b c : Bool) → (b && c) ≡ true → c ≡ true
and_step true c is = is
and_step false c is = absurd (let wrong : ⊥ = cc in wrong)

pub IsKept-removed : (slots : List ℕ) (here : List Bool) (count place : ℕ) → IsKept slots here count → is_here here place ≡ true → IsKept slots (set here place false) (count - 1)
IsKept-removed slots here count place kept is =
    let within = is_here-within here place is in
    let less = set here place false in
    let same : length less ≡ length here = length-set here place false in
    let there : has_number (filter (is_here here) slots) place ≡ true = kept_has slots here count place kept ∙ is in
    record {
      rising = kept.rising;
      below = Each-weaker (λ p. p < length here) (λ p. p < length less) (λ p lt. omega (arith, lt, same)) slots kept.below;
      held = λ p still. kept.held p (and_step (not (p == place)) (is_here here p) (sym (gone_step (p == place) here place p refl within) ∙ still));
      living = omega (arith, kept.living, ap length (places-removed slots here place within), Rises-once place (filter (is_here here) slots) (Rises-filter (is_here here) slots kept.rising) there);
    }

-- the holes are dropped
packed_places : (slots : List ℕ) (here : List Bool) → filter (is_here here) (filter (is_here here) slots) ≡ filter (is_here here) slots
packed_places slots here = filter-all (is_here here) (filter (is_here here) slots) (Each-filtered (is_here here) slots)

packed_kept : (slots : List ℕ) (here : List Bool) (count : ℕ) → IsKept slots here count → IsKept (filter (is_here here) slots) here count
packed_kept slots here count kept = record {
  rising = Rises-filter (is_here here) slots kept.rising;
  below = Each-filter (λ p. p < length here) (is_here here) slots kept.below;
  held = λ place is. kept_has slots here count place kept ∙ is;
  living = kept.living ∙ sym (ap length (packed_places slots here));
}

pub places-packed : (slots slots' : List ℕ) (here : List Bool) → slots' ≡ filter (is_here here) slots → filter (is_here here) slots' ≡ filter (is_here here) slots
places-packed slots slots' here left = rw left (packed_places slots here)

pub IsKept-packed : (slots slots' : List ℕ) (here : List Bool) (count : ℕ) → IsKept slots here count → slots' ≡ filter (is_here here) slots → IsKept slots' here count
IsKept-packed slots slots' here count kept left = rw left (packed_kept slots here count kept)
