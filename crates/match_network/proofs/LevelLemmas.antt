-- What weaving leaves of levels.
use Rattle.std.proofs.Common.{◌≡◌, ◌⊎◌, ℕ, ◌+◌, ◌-◌, ◌<◌, ◌==◌, List, [], ◌∷◌, ◌++◌, Bool, true, false, not, cond, ◌&&◌, ◌||◌, length, zero, suc, refl, ap, sym, ◌∙◌, arith, inl, inr, subst, append_assoc, length-append, Option, Some, None, slice_get, nat_le}
use Rattle.std.specs.List.{AllByRecursion, filter, list_any}
use Rattle.std.proofs.lemmas.Bool.{and_parts, cases_lt, eqb-true, le-leb, lt-leb, or_parts}
use Rattle.std.proofs.lemmas.Bool.Decides.{nat_tests}
use Rattle.rule_base.specs.declared.element.Element.{Element}
use Rattle.rule_base.specs.Memory.{Rises}
use Rattle.rule_base.specs.Numbers.{has_number, same_numbers}
use Rattle.rule_base.proofs.EachLemmas.{Each-append, Each-filter, Each-weaker}
use Rattle.working_memory.proofs.PlaceLemmas.{has_number-filter}
use Rattle.match_network.specs.Laws.{AddingGoesOn, DeadMayGo, PlacesMayGo, WeavingBegins, WeavingEnds, WeavingGoesOn, WeavingMayStop}
use Rattle.match_network.specs.Levels.{AreLevels, AreWoven, HaveCome, is_done}
use Rattle.match_network.specs.Row.{Joins, elements_of, extends, is_first, is_living, is_match, joins_after, some_passes}
use Rattle.alpha_memory.specs.Times.{times}
use Rattle.match_network.specs.Woven.{Levels, made, woven}
use Rattle.match_network.proofs.ComeLemmas.{or_rest, Each-has, HaveCome-living, HaveCome-more, is_match-come, made-come}
use Rattle.match_network.proofs.RowLemmas.{has_number-push, is_first-past, same_row}
use Rattle.alpha_memory.proofs.TimesLemmas.{times-agree, times-append, times-filter, times-none}
use Rattle.match_network.proofs.WeaveLemmas.{IsOnce, made-times}

-- 1 where it holds
abbrev one : Bool → ℕ
one b = cond b 1 0

-- a place that stands first somewhere is in the row, and stands first nowhere else
is_first-has : (place at : ℕ) (row : List ℕ) → is_first place at row ≡ true → has_number row place ≡ true
is_first-has place at [] is = absurd (let wrong : ⊥ = cc in wrong)
is_first-has place zero (next ∷ row) is = ap (λ b. b || has_number row place) is
is_first-has place (suc at) (next ∷ row) is = later (next == place) (is_first-has place at row) is
  where
    later : (same : Bool) {first has : Bool} → (first ≡ true → has ≡ true) → (not same && first) ≡ true → (same || has) ≡ true
    later true rest is = refl
    later false rest is = rest is

apart : (other at : ℕ) → (suc other == suc at) ≡ false → (other == at) ≡ false
apart other at differs = grind (arith, nat_tests)

first_only : (place at other : ℕ) (row : List ℕ) → (other == at) ≡ false → is_first place at row ≡ true → is_first place other row ≡ false
first_only place at other [] differs is = refl
first_only place zero zero (next ∷ row) differs is = absurd (let wrong : ⊥ = cc in wrong)
first_only place zero (suc other) (next ∷ row) differs is = ap (λ b. not b && is_first place other row) is
first_only place (suc at) zero (next ∷ row) differs is = not_here (next == place) (is_first place at row) is
  where
    not_here : (same first : Bool) → (not same && first) ≡ true → same ≡ false
    not_here true first is = absurd (let wrong : ⊥ = cc in wrong)
    not_here false first is = refl
first_only place (suc at) (suc other) (next ∷ row) differs is =
    both (next == place) (is_first place at row) (is_first place other row) is (first_only place at other row (apart other at differs))
  where
    both : (same first second : Bool) → (not same && first) ≡ true → (first ≡ true → second ≡ false) → (not same && second) ≡ false
    both true first second is rest = refl
    both false first second is rest = rest is

first_nowhere : (place at : ℕ) (row done : List ℕ) → list_any (λ other. other == at) done ≡ false → is_first place at row ≡ true → list_any (λ other. is_first place other row) done ≡ false
first_nowhere place at row [] new is = refl
first_nowhere place at row (other ∷ done) new is =
    neither (other == at) (list_any (λ o. o == at) done) (is_first place other row) (list_any (λ o. is_first place o row) done) new (λ differs. first_only place at other row differs is) (λ rest. first_nowhere place at row done rest is)
  where
    neither : (same among first any : Bool) → (same || among) ≡ false → (same ≡ false → first ≡ false) → (among ≡ false → any ≡ false) → (first || any) ≡ false
    neither true among first any none here rest = absurd (let wrong : ⊥ = cc in wrong)
    neither false true first any none here rest = absurd (let wrong : ⊥ = cc in wrong)
    neither false false true any none here rest = absurd (let wrong : ⊥ = cc (here refl) in wrong)
    neither false false false any none here rest = rest refl

-- one weave more
add_step : (match has first any : Bool) → (first ≡ true → has ≡ true) → (first ≡ true → any ≡ false) → one (match && (not has || any)) + one (match && first) ≡ one (match && (not has || (first || any)))
add_step false has first any there alone = refl
add_step true true true true there alone = absurd (let wrong : ⊥ = cc (alone refl) in wrong)
add_step true true true false there alone = refl
add_step true true false true there alone = refl
add_step true true false false there alone = refl
add_step true false true any there alone = absurd (let wrong : ⊥ = cc (there refl) in wrong)
add_step true false false any there alone = refl

held_once : (joins : Joins) (came : List Element) (places : List ℕ) (place at : ℕ) (done : List ℕ) (levels : Levels) → AreWoven joins came places place done levels → IsOnce joins came places place at (levels at)
held_once joins came places place at done levels held = record {
  once = λ row long living without.
      ap (λ width. times (same_numbers row) (levels width)) (sym long) ∙ held.once row living
      ∙ ap (λ b. one (is_match joins came row && (b || list_any (λ o. is_first place o row) done))) without ∙ all (is_match joins came row);
}
  where
    all : (b : Bool) → one (b && true) ≡ one b
    all true = refl
    all false = refl

woven_once : (joins : Joins) (came : List Element) (places : List ℕ) (place : ℕ) (done : List ℕ) (at : ℕ) (levels : Levels) → Rises places → list_any (λ other. other == at) done ≡ false → AreWoven joins came places place done levels → (row : List ℕ) → is_living places row ≡ true → times (same_numbers row) (woven joins came places place at levels (length row)) ≡ one (is_match joins came row && is_done place (at ∷ done) row)
woven_once joins came places place done at levels rises new held row living = elim (cases_lt at (length row)) [
  | inl lt ↦ (
      let further : ℕ = length row - (at + 1) in
      let rows : List (List ℕ) = made joins came places place (levels at) further in
      ap (λ b. times (same_numbers row) (cond b (levels (length row)) (levels (length row) ++ rows))) (lt-leb (length row) at lt)
      ∙ times-append (same_numbers row) (levels (length row)) rows
      ∙ ap (λ n. n + times (same_numbers row) rows) (held.once row living)
      ∙ ap (λ n. one (is_match joins came row && is_done place done row) + n) (made-times joins came places place at (levels at) rises (held_once joins came places place at done levels held) further row (omega (arith, lt)) living)
      ∙ add_step (is_match joins came row) (has_number row place) (is_first place at row) (list_any (λ o. is_first place o row) done) (is_first-has place at row) (first_nowhere place at row done new))
  | inr le ↦ (
      let further : ℕ = length row - (at + 1) in
      let rows : List (List ℕ) = made joins came places place (levels at) further in
      ap (λ b. times (same_numbers row) (cond b (levels (length row)) (levels (length row) ++ rows))) (le-leb (length row) at le)
      ∙ held.once row living
      ∙ sym (ap (λ b. one (is_match joins came row && (not (has_number row place) || (b || list_any (λ o. is_first place o row) done)))) (is_first-past place at row le)))
]

woven_come : (joins : Joins) (came : List Element) (places : List ℕ) (place at : ℕ) (levels : Levels) → AllByRecursion (λ p. p < length came) places → place < length came → ((width : ℕ) → AllByRecursion (HaveCome came) (levels width)) → (width : ℕ) → AllByRecursion (HaveCome came) (woven joins came places place at levels width)
woven_come joins came places place at levels below lt come width =
    let rows : List (List ℕ) = made joins came places place (levels at) (width - (at + 1)) in
    elim (nat_le width at) as (λ b. AllByRecursion (HaveCome came) (cond b (levels width) (levels width ++ rows))) [
      | true ↦ come width
      | false ↦ Each-append (HaveCome came) (levels width) rows (come width) (made-come joins came places place (levels at) below lt (come at) (width - (at + 1)))
    ]

pub weaving_goes_on : WeavingGoesOn
weaving_goes_on joins came places place done at levels new rises below lt fresh is held = record {
  once = λ row living. ap (times (same_numbers row)) (is (length row)) ∙ woven_once joins came places place done at levels rises fresh held row living;
  have_come = λ width. subst (AllByRecursion (HaveCome came)) (sym (is width)) (woven_come joins came places place at levels below lt held.have_come width);
}

-- rows of elements that came are without one that comes
differs_step : (same : Bool) (row other : List ℕ) → same_numbers row other ≡ same → (row ≡ other → ⊥) → same_numbers row other ≡ false
differs_step true row other is differs = absurd (differs (same_row row other is))
differs_step false row other is differs = is

come_without : (came : List Element) (row : List ℕ) → has_number row (length came) ≡ true → (rows : List (List ℕ)) → AllByRecursion (HaveCome came) rows → times (same_numbers row) rows ≡ 0
come_without came row has rows come =
    times-none (same_numbers row) rows
    (Each-weaker (HaveCome came) (λ other. same_numbers row other ≡ false)
    (λ other of_other. differs_step (same_numbers row other) row other refl
    (λ same. let lt : length came < length came = Each-has (λ p. p < length came) row (length came) (subst (HaveCome came) (sym same) of_other) has in omega (arith, lt))) rows come)

-- what lives without the last place lived before
living_step : (in_new same in_old rest rest_old : Bool) → in_new ≡ (in_old || same) → same ≡ false → (rest ≡ true → rest_old ≡ true) → (in_new && rest) ≡ true → (in_old && rest_old) ≡ true
living_step true same true rest rest_old is differs before living = before living
living_step true true false rest rest_old is differs before living = absurd (let wrong : ⊥ = cc in wrong)
living_step true false false rest rest_old is differs before living = absurd (let wrong : ⊥ = cc in wrong)
living_step false same in_old rest rest_old is differs before living = absurd (let wrong : ⊥ = cc in wrong)

pub lived_before : (places : List ℕ) (place : ℕ) (row : List ℕ) → has_number row place ≡ false → is_living (places ++ place ∷ []) row ≡ true → is_living places row ≡ true
lived_before places place [] without living = refl
lived_before places place (next ∷ row) without living =
    let parts = or_parts (next == place) (has_number row place) without in
    living_step (has_number (places ++ place ∷ []) next) (place == next) (has_number places next) (is_living (places ++ place ∷ []) row) (is_living places row)
    (has_number-push places place next) (turned next place parts.0) (lived_before places place row parts.1) living
  where
    turned : (a b : ℕ) → (a == b) ≡ false → (b == a) ≡ false
    turned a b differs = grind (arith, nat_tests)

-- an element comes
begins_step : (joins : Joins) (came : List Element) (places : List ℕ) (e : Element) (levels : Levels) → AllByRecursion (λ p. p < length came) places → AreLevels joins came places levels → (row : List ℕ) (has : Bool) → has_number row (length came) ≡ has → is_living (places ++ length came ∷ []) row ≡ true → times (same_numbers row) (levels (length row)) ≡ one (is_match joins (came ++ e ∷ []) row && (not has || false))
begins_step joins came places e levels below held row true is living =
    come_without came row is (levels (length row)) (held.have_come (length row)) ∙ sym (ap one (and_false (is_match joins (came ++ e ∷ []) row)))
  where
    and_false : (b : Bool) → (b && false) ≡ false
    and_false true = refl
    and_false false = refl
begins_step joins came places e levels below held row false is living =
    let before : is_living places row ≡ true = lived_before places (length came) row is living in
    held.once row before
    ∙ ap one (sym (is_match-come joins came e row (HaveCome-living came places row below before)))
    ∙ sym (ap one (and_true (is_match joins (came ++ e ∷ []) row)))
  where
    and_true : (b : Bool) → (b && true) ≡ b
    and_true true = refl
    and_true false = refl

pub weaving_begins : WeavingBegins
weaving_begins joins came places e levels below held = record {
  once = λ row living. begins_step joins came places e levels below held row (has_number row (length came)) refl living;
  have_come = λ width. Each-weaker (HaveCome came) (HaveCome (came ++ e ∷ [])) (λ row come. HaveCome-more came e row come) (levels width) (held.have_come width);
}

-- a match that has a place has it first where its element joined
some_step : (passes : Element → Bool) (found : Option Element) (e : Element) → found ≡ Some e → some_passes passes found ≡ true → passes e ≡ true
some_step passes None e is passed = absurd (let wrong : ⊥ = cc in wrong)
some_step passes (Some other) e is passed = let same : other ≡ e = cc in subst (λ x. passes x ≡ true) same passed

pub record JoinsAt (joins : Joins) (place : ℕ) (row : List ℕ) (e : Element) (start : ℕ) : Type 0 where
  pub at : ℕ
  pub first : is_first place at row ≡ true
  pub before : List Element
  pub joined : joins (start + at) before e ≡ true

joins_step : (joins : Joins) (came : List Element) (place : ℕ) (e : Element) (before row : List ℕ) (next : ℕ) (same : Bool) → (next == place) ≡ same → slice_get came place ≡ Some e → extends joins came before next ≡ true → (same ≡ false → JoinsAt joins place row e (length (before ++ next ∷ []))) → JoinsAt joins place (next ∷ row) e (length before)
joins_step joins came place e before row next true is there joined rest = record {
  at = 0;
  first = is;
  before = elements_of came before;
  joined = some_step (joins (length before + 0) (elements_of came before)) (slice_get came next) e (ap (slice_get came) (eqb-true next place is) ∙ there)
      (ap (λ n. some_passes (joins n (elements_of came before)) (slice_get came next)) (let same : length before + 0 ≡ length before = omega arith in same) ∙ joined);
}
joins_step joins came place e before row next false is there joined rest =
    let later = rest refl in
    record {
      at = suc later.at;
      first = ap (λ b. not b && is_first place later.at row) is ∙ later.first;
      before = later.before;
      joined = ap (λ n. joins n later.before e) (let same : length before + suc later.at ≡ length (before ++ next ∷ []) + later.at = omega (arith, length-append before (next ∷ [])) in same) ∙ later.joined;
    }

joins_at : (joins : Joins) (came : List Element) (place : ℕ) (e : Element) (before row : List ℕ) → slice_get came place ≡ Some e → joins_after joins came before row ≡ true → has_number row place ≡ true → JoinsAt joins place row e (length before)
joins_at joins came place e before [] there matches has = absurd (let wrong : ⊥ = cc in wrong)
joins_at joins came place e before (next ∷ row) there matches has =
    let parts = and_parts (extends joins came before next) (joins_after joins came (before ++ next ∷ []) row) matches in
    joins_step joins came place e before row next (next == place) refl there parts.0
    (λ differs. joins_at joins came place e (before ++ next ∷ []) row there parts.1 (or_rest (next == place) (has_number row place) has differs))

-- where a weave was done at a condition element, the rows that have the place first there are done
done_step_at : (place at other : ℕ) (row : List ℕ) (same among any : Bool) → (other == at) ≡ same → (same || among) ≡ true → is_first place at row ≡ true → (among ≡ true → any ≡ true) → (is_first place other row || any) ≡ true
done_step_at place at other row true among any is here first rest = ap (λ o. is_first place o row || any) (eqb-true other at is) ∙ ap (λ b. b || any) first
done_step_at place at other row false among any is here first rest = any_last (is_first place other row) any (rest here)
  where
    any_last : (a b : Bool) → b ≡ true → (a || b) ≡ true
    any_last true b is = refl
    any_last false b is = is

done_at : (place at : ℕ) (row done : List ℕ) → list_any (λ other. other == at) done ≡ true → is_first place at row ≡ true → list_any (λ other. is_first place other row) done ≡ true
done_at place at row [] among first = absurd (let wrong : ⊥ = cc in wrong)
done_at place at row (other ∷ done) among first = done_step_at place at other row (other == at) (list_any (λ o. o == at) done) (list_any (λ o. is_first place o row) done) refl among first (λ rest. done_at place at row done rest first)

done_step : (joins : Joins) (came : List Element) (place : ℕ) (e : Element) (done row : List ℕ) (has : Bool) → has_number row place ≡ has → slice_get came place ≡ Some e → ((at : ℕ) (before : List Element) → joins at before e ≡ true → list_any (λ other. other == at) done ≡ true) → is_match joins came row ≡ true → (not has || list_any (λ o. is_first place o row) done) ≡ true
done_step joins came place e done row false is there all matches = refl
done_step joins came place e done row true is there all matches =
    let found = joins_at joins came place e [] row there matches is in
    done_at place found.at row done (all found.at found.before (ap (λ n. joins n found.before e) (let same : found.at ≡ 0 + found.at = omega arith in same) ∙ found.joined)) found.first

ends_step : (match is_done : Bool) → (match ≡ true → is_done ≡ true) → one (match && is_done) ≡ one match
ends_step true is_done all = ap one (all refl)
ends_step false is_done all = refl

pub weaving_ends : WeavingEnds
weaving_ends joins came places place e done levels there all held = record {
  once = λ row living. held.once row living ∙ ends_step (is_match joins came row) (is_done place done row) (done_step joins came place e done row (has_number row place) refl there all);
  have_come = held.have_come;
}

-- what is left of weaves that stopped is dead
living_without : (places row : List ℕ) (place : ℕ) → AllByRecursion (λ p. p < place) places → is_living places row ≡ true → has_number row place ≡ true → ⊥
living_without places row place below living has =
    let lt : place < place = Each-has (λ p. p < place) row place (living_below places row place below living) has in omega (arith, lt)
  where
    living_below : (places row : List ℕ) (place : ℕ) → AllByRecursion (λ p. p < place) places → is_living places row ≡ true → AllByRecursion (λ p. p < place) row
    living_below places [] place below living = tt
    living_below places (next ∷ row) place below living =
        let parts = and_parts (has_number places next) (is_living places row) living in
        (Each-has (λ p. p < place) places next below parts.0, living_below places row place below parts.1)

stopped_none : (came : List Element) (places row : List ℕ) → AllByRecursion (λ p. p < length came) places → is_living places row ≡ true → (rows : List (List ℕ)) → AllByRecursion (λ other. has_number other (length came) ≡ true) rows → times (same_numbers row) rows ≡ 0
stopped_none came places row below living rows have =
    times-none (same_numbers row) rows
    (Each-weaker (λ other. has_number other (length came) ≡ true) (λ other. same_numbers row other ≡ false)
    (λ other has. differs_step (same_numbers row other) row other refl
    (λ same. living_without places row (length came) below living (ap (λ r. has_number r (length came)) same ∙ has))) rows have)

pub weaving_may_stop : WeavingMayStop
weaving_may_stop joins came places e levels new below adds held = record {
  once = λ row living.
      ap (times (same_numbers row)) (adds (length row)).1
      ∙ times-append (same_numbers row) (levels (length row)) (adds (length row)).0
      ∙ (let none : times (same_numbers row) (levels (length row)) + times (same_numbers row) (adds (length row)).0 ≡ times (same_numbers row) (levels (length row)) = omega (arith, stopped_none came places row below living (adds (length row)).0 (Each-weaker (λ r. HaveCome (came ++ e ∷ []) r × (has_number r (length came) ≡ true)) (λ r. has_number r (length came) ≡ true) (λ r both. both.1) (adds (length row)).0 (adds (length row)).2)) in none)
      ∙ held.once row living
      ∙ ap one (sym (is_match-come joins came e row (HaveCome-living came places row below living)));
  have_come = λ width. subst (AllByRecursion (HaveCome (came ++ e ∷ []))) (sym (adds width).1) (Each-append (HaveCome (came ++ e ∷ [])) (levels width) (adds width).0
      (Each-weaker (HaveCome came) (HaveCome (came ++ e ∷ [])) (λ row come. HaveCome-more came e row come) (levels width) (held.have_come width))
      (Each-weaker (λ r. HaveCome (came ++ e ∷ []) r × (has_number r (length came) ≡ true)) (HaveCome (came ++ e ∷ [])) (λ r both. both.0) (adds width).0 (adds width).2));
}

pub adding_goes_on : AddingGoesOn
adding_goes_on came place old now new first second width =
    let a = first width in
    let b = second width in
    (a.0 ++ b.0, b.1 ∙ ap (λ rows. rows ++ b.0) a.1 ∙ append_assoc (old width) a.0 b.0, Each-append (λ row. HaveCome came row × (has_number row place ≡ true)) a.0 b.0 a.2 b.2)

-- fewer places, and fewer rows
still_step : (keep has : Bool) {left : Bool} {rest rest_before : Bool} → left ≡ (keep && has) → (rest ≡ true → rest_before ≡ true) → (left && rest) ≡ true → (has && rest_before) ≡ true
still_step true true {left = left} {rest = rest} is before living = before (second left rest living)
  where
    second : (a b : Bool) → (a && b) ≡ true → b ≡ true
    second true b is = is
    second false b is = absurd (let wrong : ⊥ = cc in wrong)
still_step true false is before living = absurd (let wrong : ⊥ = cc in wrong)
still_step false has is before living = absurd (let wrong : ⊥ = cc in wrong)

pub lives_in_more : (keep : ℕ → Bool) (places row : List ℕ) → is_living (filter keep places) row ≡ true → is_living places row ≡ true
lives_in_more keep places [] living = refl
lives_in_more keep places (next ∷ row) living =
    still_step (keep next) (has_number places next) (has_number-filter keep places next) (lives_in_more keep places row) living

pub places_may_go : PlacesMayGo
places_may_go joins came places keep levels held = record {
  once = λ row living. held.once row (lives_in_more keep places row living);
  have_come = held.have_come;
}

kept_step : (same keep : Bool) → (same ≡ true → keep ≡ true) → (same && keep) ≡ same
kept_step true keep is = is refl
kept_step false keep is = refl

kept_once : (places row : List ℕ) (rows left : List (List ℕ)) → is_living places row ≡ true → (left ≡ rows) ⊎ (left ≡ filter (is_living places) rows) → times (same_numbers row) left ≡ times (same_numbers row) rows
kept_once places row rows left living (inl same) = ap (times (same_numbers row)) same
kept_once places row rows left living (inr fewer) =
    ap (times (same_numbers row)) fewer
    ∙ times-filter (same_numbers row) (is_living places) rows
    ∙ times-agree (λ other. same_numbers row other && is_living places other) (same_numbers row) (λ other. kept_step (same_numbers row other) (is_living places other) (λ same. ap (is_living places) (sym (same_row row other same)) ∙ living)) rows

kept_come : (came : List Element) (places : List ℕ) (rows left : List (List ℕ)) → AllByRecursion (HaveCome came) rows → (left ≡ rows) ⊎ (left ≡ filter (is_living places) rows) → AllByRecursion (HaveCome came) left
kept_come came places rows left come (inl same) = subst (AllByRecursion (HaveCome came)) (sym same) come
kept_come came places rows left come (inr fewer) = subst (AllByRecursion (HaveCome came)) (sym fewer) (Each-filter (HaveCome came) (is_living places) rows come)

pub dead_may_go : DeadMayGo
dead_may_go joins came places levels new kept held = record {
  once = λ row living. kept_once places row (levels (length row)) (new (length row)) living (kept (length row)) ∙ held.once row living;
  have_come = λ width. kept_come came places (levels width) (new width) (held.have_come width) (kept width);
}
