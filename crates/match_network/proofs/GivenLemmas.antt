-- What a level is given keeps the levels of a rule right.
use Rattle.std.proofs.Common.{◌≡◌, ℕ, ◌+◌, ◌-◌, ◌<◌, ◌≤◌, ◌==◌, List, [], ◌∷◌, ◌++◌, Bool, true, false, not, cond, ◌&&◌, drop, length, get_or, map, reverse, set, zero, suc, refl, ap, subst, sym, ◌∙◌, arith, length-append, inl, inr, Option, Some, None, slice_get, Result, Ok, Err}
use Rattle.std.specs.List.{AllByRecursion, filter}
use Rattle.std.specs.Option.{option_map_or}
use Rattle.std.specs.Result.{OnErr, OnOk}
use Rattle.std.proofs.lemmas.Bool.{cases_eq}
use Rattle.std.proofs.lemmas.Bool.Decides.{nat_tests}
use Rattle.std.proofs.lemmas.List.{get_or_append_left, get_or-set_other, get_or-set_same, length-set}
use Rattle.std.proofs.lemmas.List.Concat.{flat_map-cons}
use Rattle.std.proofs.lemmas.List.Elements.{filter-append}
use Rattle.rule_base.specs.declared.element.Element.{Element}
use Rattle.rule_base.specs.Numbers.{has_number}
use Rattle.rule_base.proofs.EachLemmas.{Each-always, Each-append, Each-filter, Each-flat_map, Each-map, Each-weaker}
use Rattle.working_memory.proofs.PlaceLemmas.{filter-agree}
use Rattle.join_tests.specs.declared.joins.Join.{Join}
use Rattle.join_tests.specs.Joining.{joins, passes, same_key, tests_hold}
use Rattle.match_network.specs.Conditions.{AreFiled, IsBegun, IsGiven, IsGivenPart, IsLevelOf, joins_of, level_at, rows_of}
use Rattle.match_network.specs.Filed.{IsFiled, LevelRows, filed, filed_rows, living_entries, only, passes_at, row_lives, with_rows}
use Rattle.match_network.specs.Joining.{agrees, extended}
use Rattle.match_network.specs.SoFar.{IsPart}
use Rattle.match_network.specs.Levels.{HaveCome}
use Rattle.match_network.specs.Row.{Joins, elements_of, extends, is_living, some_passes}
use Rattle.match_network.specs.Woven.{Levels, grown, joined, made, offered, with_place}
use Rattle.match_network.proofs.ComeLemmas.{Each-reverse, grown-come, joined-come}
use Rattle.match_network.proofs.FiledLemmas.{passed_came}
use Rattle.match_network.proofs.SoFarLemmas.{drop_from, filed-append}

-- rows that are filed have their numbers
filed_rows-numbered : (join : Join) (came : List Element) (number : ℕ) (rows : List (List ℕ)) (most : ℕ) → number + length rows ≤ most → AllByRecursion (λ (e : ℕ × ℕ). e.1 < most) (filed_rows join came number rows)
filed_rows-numbered join came number [] most le = tt
filed_rows-numbered join came number (row ∷ rows) most le = (omega (arith, le), filed_rows-numbered join came (number + 1) rows most (omega (arith, le)))

pub filed-numbered : (next : List Join) (came : List Element) (number : ℕ) (rows : List (List ℕ)) (most : ℕ) → number + length rows ≤ most → AllByRecursion (λ (e : ℕ × ℕ). e.1 < most) (filed next came number rows)
filed-numbered [] came number rows most le = tt
filed-numbered (join ∷ rest) came number rows most le = filed_rows-numbered join came number rows most le

-- entries of old rows live as before
same_lives : (places : List ℕ) (rows more : List (List ℕ)) (entries : List (ℕ × ℕ)) → AllByRecursion (λ (e : ℕ × ℕ). e.1 < length rows) entries → living_entries (row_lives places (rows ++ more)) entries ≡ living_entries (row_lives places rows) entries
same_lives places rows more entries numbered =
    filter-agree (λ (e : ℕ × ℕ). row_lives places (rows ++ more) e.1) (λ (e : ℕ × ℕ). row_lives places rows e.1) entries
    (Each-weaker (λ (e : ℕ × ℕ). e.1 < length rows) (λ (e : ℕ × ℕ). row_lives places (rows ++ more) e.1 ≡ row_lives places rows e.1)
    (λ e lt. ap (is_living places) (get_or_append_left rows more [] e.1 lt)) entries numbered)

pub IsFiled-more : (next : List Join) (came : List Element) (places : List ℕ) (level : LevelRows) (rows : List (List ℕ)) → IsFiled next came places level → IsFiled next came places (with_rows next came level rows)
IsFiled-more next came places level rows held =
    let all = level.rows ++ rows in
    let n = length level.rows in
    let alive : ℕ × ℕ → Bool = λ e. row_lives places all e.1 in
    let old : living_entries (row_lives places all) level.entries ≡ living_entries (row_lives places all) (filed next came 0 level.rows) =
    same_lives places level.rows rows level.entries held.numbered ∙ held.living ∙ sym (same_lives places level.rows rows (filed next came 0 level.rows) (filed-numbered next came 0 level.rows n (omega arith))) in
    let whole : filed next came 0 all ≡ filed next came 0 level.rows ++ filed next came n rows =
    filed-append next came 0 level.rows rows ∙ ap (λ k. filed next came 0 level.rows ++ filed next came k rows) (let same : 0 + n ≡ n = omega arith in same) in
    record {
      living = filter-append alive level.entries (filed next came n rows)
          ∙ ap (λ es. es ++ filter alive (filed next came n rows)) old
          ∙ sym (filter-append alive (filed next came 0 level.rows) (filed next came n rows))
          ∙ ap (filter alive) (sym whole);
      numbered = Each-append (λ (e : ℕ × ℕ). e.1 < length all) level.entries (filed next came n rows)
          (Each-weaker (λ (e : ℕ × ℕ). e.1 < n) (λ (e : ℕ × ℕ). e.1 < length all) (λ e lt. omega (arith, lt, length-append level.rows rows)) level.entries held.numbered)
          (filed-numbered next came n rows (length all) (omega (arith, length-append level.rows rows)));
    }

pub IsLevelOf-more : (all next : List Join) (came : List Element) (places : List ℕ) (number : ℕ) (level : LevelRows) (rows : List (List ℕ)) → IsLevelOf all came places number level → next ≡ drop (number + 1) all → AllByRecursion (λ row. length row ≡ number + 1) rows → AllByRecursion (HaveCome came) rows → IsLevelOf all came places number (with_rows next came level rows)
IsLevelOf-more all next came places number level rows held is widths come = record {
  width = held.width;
  widths = Each-append (λ row. length row ≡ number + 1) level.rows rows held.widths widths;
  have_come = Each-append (HaveCome came) level.rows rows held.have_come come;
  filed = subst (λ js. IsFiled (drop (number + 1) all) came places (with_rows js came level rows)) (sym is) (IsFiled-more (drop (number + 1) all) came places level rows held.filed);
}

-- the levels after a change of one
abbrev nowhere : LevelRows
nowhere = record { width = 0; rows = []; entries = [] }

level_set : (levels : List LevelRows) (number other : ℕ) (level : LevelRows) → (P : LevelRows → Type 0) → number < length levels → (other ≡ number → P level) → ((other ≡ number → ⊥) → P (level_at levels other)) → P (level_at (set levels number level) other)
level_set levels number other level P lt same differs = elim (cases_eq other number) [
  | inl is ↦ subst P (sym (ap (level_at (set levels number level)) is ∙ get_or-set_same levels number level nowhere lt)) (same is)
  | inr apart ↦ subst P (sym (get_or-set_other levels number other level nowhere apart)) (differs apart)
]

pub AreFiled-set : (all : List Join) (came : List Element) (places : List ℕ) (levels : List LevelRows) (number : ℕ) (level : LevelRows) → AreFiled all came places levels → number < length levels → IsLevelOf all came places number level → AreFiled all came places (set levels number level)
AreFiled-set all came places levels number level held lt is = record {
  count = length-set levels number level ∙ held.count;
  each = λ other within. level_set levels number other level (IsLevelOf all came places other) lt
      (λ same. subst (λ n. IsLevelOf all came places n level) (sym same) is)
      (λ apart. held.each other (omega (arith, within, length-set levels number level)));
}

rows_of-set : (levels : List LevelRows) (number : ℕ) (level : LevelRows) (width : ℕ) → (width == number + 1) ≡ false → rows_of (set levels number level) width ≡ rows_of levels width
rows_of-set levels number level zero differs = refl
rows_of-set levels number level (suc other) differs =
    ap (λ (l : LevelRows). l.rows) (get_or-set_other levels number other level nowhere (λ same. apart same differs))
  where
    apart : other ≡ number → (suc other == number + 1) ≡ false → ⊥
    apart same differs = grind (arith, nat_tests)

rows_of-at : (levels : List LevelRows) (number : ℕ) (level : LevelRows) → number < length levels → rows_of (set levels number level) (number + 1) ≡ level.rows
rows_of-at levels number level lt =
    ap (rows_of (set levels number level)) (let same : number + 1 ≡ suc number = omega arith in same) ∙ ap (λ (l : LevelRows). l.rows) (get_or-set_same levels number level nowhere lt)

rows_of-level : (levels : List LevelRows) (number : ℕ) → rows_of levels (number + 1) ≡ (level_at levels number).rows
rows_of-level levels number = ap (rows_of levels) (let same : number + 1 ≡ suc number = omega arith in same)

pub given_set : (next : List Join) (came : List Element) (levels new : List LevelRows) (number : ℕ) (rows : List (List ℕ)) → number < length levels → new ≡ set levels number (with_rows next came (level_at levels number) rows) → IsGiven (number + 1) (rows_of levels) (rows_of new) rows
given_set next came levels new number rows lt is =
    let level = with_rows next came (level_at levels number) rows in
    record {
      given = ap (λ ls. rows_of ls (number + 1)) is ∙ rows_of-at levels number level lt ∙ ap (λ rs. rs ++ rows) (sym (rows_of-level levels number));
      others = λ other differs. ap (λ ls. rows_of ls other) is ∙ rows_of-set levels number level other differs;
    }

pub filed_set : (all next : List Join) (came : List Element) (places : List ℕ) (levels new : List LevelRows) (number : ℕ) (rows : List (List ℕ)) → AreFiled all came places levels → number < length levels → next ≡ drop (number + 1) all → AllByRecursion (λ row. length row ≡ number + 1) rows → AllByRecursion (HaveCome came) rows → new ≡ set levels number (with_rows next came (level_at levels number) rows) → AreFiled all came places new
filed_set all next came places levels new number rows held lt is widths come new_is =
    subst (AreFiled all came places) (sym new_is)
    (AreFiled-set all came places levels number (with_rows next came (level_at levels number) rows) held lt (IsLevelOf-more all next came places number (level_at levels number) rows (held.each number lt) is widths come))

pub Each-first : {X : Type 0} (P : X → Type 0) (xs ys : List X) → AllByRecursion P (xs ++ ys) → AllByRecursion P xs
Each-first P [] ys each = tt
Each-first P (x ∷ xs) ys each = (each.0, Each-first P xs ys each.1)

-- one condition element's joins among all of them
extends_by : (all : List Join) (join : Join) (came : List Element) (row : List ℕ) (place number : ℕ) → slice_get all number ≡ Some join → length row ≡ number → extends (only join) came row place ≡ extends (joins_of all) came row place
extends_by all join came row place number at long =
    ap (λ o. some_passes (λ e. option_map_or (λ j. joins j (elements_of came row) e) o false) (slice_get came place)) (sym at ∙ ap (slice_get all) (sym long))

pub joined_by : (all : List Join) (join : Join) (came : List Element) (places : List ℕ) (place number : ℕ) (rows : List (List ℕ)) → slice_get all number ≡ Some join → AllByRecursion (λ row. length row ≡ number) rows → joined (only join) came places place rows ≡ joined (joins_of all) came places place rows
joined_by all join came places place number rows at widths =
    let keep : Joins → List ℕ → Bool = λ (js : Joins) (row : List ℕ). (is_living places row && not (has_number row place)) && extends js came row place in
    ap reverse
    (filter-agree (keep (only join)) (keep (joins_of all)) rows
    (Each-weaker (λ row. length row ≡ number) (λ row. keep (only join) row ≡ keep (joins_of all) row)
    (λ row long. ap (λ b. (is_living places row && not (has_number row place)) && b) (extends_by all join came row place number at long)) rows widths))

pub grown_by : (all : List Join) (join : Join) (came : List Element) (places : List ℕ) (number : ℕ) (rows : List (List ℕ)) → slice_get all number ≡ Some join → AllByRecursion (λ row. length row ≡ number) rows → grown (only join) came places rows ≡ grown (joins_of all) came places rows
grown_by all join came places number [] at widths = refl
grown_by all join came places number (row ∷ rows) at widths =
    let f : Joins → List ℕ → List (List ℕ) = λ (js : Joins) (r : List ℕ). map (λ p. with_place p r) (offered js came places r) in
    let here : f (only join) row ≡ f (joins_of all) row =
    ap (λ ps. map (λ p. with_place p row) (reverse ps))
    (filter-agree (extends (only join) came row) (extends (joins_of all) came row) places
    (Each-always (λ p. extends (only join) came row p ≡ extends (joins_of all) came row p) (λ p. extends_by all join came row p number at widths.0) places)) in
    flat_map-cons (f (only join)) row rows
    ∙ ap (λ rs. rs ++ grown (only join) came places rows) here
    ∙ ap (λ rs. f (joins_of all) row ++ rs) (grown_by all join came places number rows at widths.1)
    ∙ sym (flat_map-cons (f (joins_of all)) row rows)

-- how many places the rows have that a place makes
pub joined-widths : (joins : Joins) (came : List Element) (places : List ℕ) (place number : ℕ) (rows : List (List ℕ)) → AllByRecursion (λ row. length row ≡ number) rows → AllByRecursion (λ row. length row ≡ number + 1) (map (with_place place) (joined joins came places place rows))
joined-widths joins came places place number rows widths =
    let keep : List ℕ → Bool = λ row. (is_living places row && not (has_number row place)) && extends joins came row place in
    Each-map (λ row. length row ≡ number + 1) (with_place place) (joined joins came places place rows)
    (Each-weaker (λ row. length row ≡ number) (λ row. length (row ++ place ∷ []) ≡ number + 1) (λ row long. omega (arith, long, length-append row (place ∷ []))) (joined joins came places place rows)
    (Each-reverse (λ row. length row ≡ number) (filter keep rows) (Each-filter (λ row. length row ≡ number) keep rows widths)))

pub grown-widths : (joins : Joins) (came : List Element) (places : List ℕ) (number : ℕ) (rows : List (List ℕ)) → AllByRecursion (λ row. length row ≡ number) rows → AllByRecursion (λ row. length row ≡ number + 1) (grown joins came places rows)
grown-widths joins came places number rows widths =
    Each-flat_map (λ row. length row ≡ number + 1) (λ row. map (λ p. with_place p row) (offered joins came places row)) rows
    (Each-weaker (λ row. length row ≡ number) (λ row. AllByRecursion (λ r. length r ≡ number + 1) (map (λ p. with_place p row) (offered joins came places row)))
    (λ row long. Each-map (λ r. length r ≡ number + 1) (λ p. with_place p row) (offered joins came places row)
    (Each-always (λ p. length (row ++ p ∷ []) ≡ number + 1) (λ p. omega (arith, long, length-append row (p ∷ []))) (offered joins came places row)))
    rows widths)

-- what is true whether a call failed or not
pub by_result : {T E P Q R : Type 0} (r : Result T E) → OnOk r P → OnErr r Q → (P → R) → (Q → R) → R
by_result (Ok v) ok err first second = first ok
by_result (Err e) ok err first second = second err

pub on_ok : {T E P Q : Type 0} (r : Result T E) → (P → Q) → OnOk r P → OnOk r Q
on_ok (Ok v) f ok = f ok
on_ok (Err e) f ok = tt

pub on_err : {T E P Q : Type 0} (r : Result T E) → (P → Q) → OnErr r P → OnErr r Q
on_err (Ok v) f err = tt
on_err (Err e) f err = f err

-- the place alone
alone_step : (join : Join) (came : List Element) (found : Option Element) → some_passes (passes join.pattern) found ≡ true → some_passes (agrees join []) found ≡ some_passes (λ e. (passes join.pattern e && same_key join.key [] e) && tests_hold join.tests [] e) found
alone_step join came None passed = absurd (let wrong : ⊥ = cc in wrong)
alone_step join came (Some e) passed = ap (λ b. (b && same_key join.key [] e) && tests_hold join.tests [] e) (sym passed)

pub alone_made : (all : List Join) (join : Join) (came : List Element) (places : List ℕ) (place : ℕ) → slice_get all 0 ≡ Some join → passes_at join came place ≡ true → extended join came [] (place ∷ []) ≡ map (with_place place) (joined (joins_of all) came places place ([] ∷ []))
alone_made all join came places place at passed =
    ap one_way (alone_step join came (slice_get came place) passed) ∙ both (extends (only join) came [] place)
    ∙ ap (λ b. map (with_place place) (reverse (cond ((true && true) && b) ([] ∷ []) []))) (extends_by all join came [] place 0 at refl)
  where
    one_way : Bool → List (List ℕ)
    one_way b = map (λ p. with_place p []) (cond b (place ∷ []) [])

    both : (b : Bool) → map (λ p. with_place p []) (cond b (place ∷ []) []) ≡ map (with_place place) (reverse (cond ((true && true) && b) ([] ∷ []) []))
    both true = refl
    both false = refl

pub record Begun (all : List Join) (came : List Element) (places : List ℕ) (place at : ℕ) (levels new : List LevelRows) : Type 0 where
  pub given : IsGiven (at + 1) (rows_of levels) (rows_of new) (made (joins_of all) came places place (rows_of levels at) 0)
  pub filed : AreFiled all came places new

begun_first : (all next : List Join) (join : Join) (came : List Element) (places : List ℕ) (place : ℕ) (levels new : List LevelRows) → AreFiled all came places levels → 0 < length levels → place < length came → slice_get all 0 ≡ Some join → next ≡ drop (0 + 1) all → passes_at join came place ≡ true → new ≡ set levels 0 (with_rows next came (level_at levels 0) (extended join came [] (place ∷ []))) → Begun all came places place 0 levels new
begun_first all next join came places place levels new held lt within at is passed new_is =
    let rows = made (joins_of all) came places place ([] ∷ []) 0 in
    let now : new ≡ set levels 0 (with_rows next came (level_at levels 0) rows) = new_is ∙ ap (λ rs. set levels 0 (with_rows next came (level_at levels 0) rs)) (alone_made all join came places place at passed) in
    record {
      given = given_set next came levels new 0 rows lt now;
      filed = filed_set all next came places levels new 0 rows held lt is
          (joined-widths (joins_of all) came places place 0 ([] ∷ []) (refl, tt)) (joined-come (joins_of all) came places place ([] ∷ []) within (tt, tt)) now;
    }

pub begun_alone : (all next : List Join) (join : Join) (came : List Element) (places : List ℕ) (place at : ℕ) (levels new : List LevelRows) → at ≡ 0 → AreFiled all came places levels → at < length all → slice_get all at ≡ Some join → next ≡ drop (at + 1) all → passes_at join came place ≡ true → new ≡ set levels 0 (with_rows next came (level_at levels 0) (extended join came [] (place ∷ []))) → Begun all came places place at levels new
begun_alone all next join came places place at levels new none held lt there is passed new_is =
    subst (λ n. Begun all came places place n levels new) (sym none)
    (begun_first all next join came places place levels new held (omega (arith, lt, held.count)) (passed_came join came place passed) (ap (slice_get all) (sym none) ∙ there) (is ∙ ap (λ n. drop (n + 1) all) none) passed new_is)

-- a place with the rows before it
IsGiven-from : (width : ℕ) (f g h : Levels) (rows : List (List ℕ)) → ((w : ℕ) → f w ≡ g w) → IsGiven width f h rows → IsGiven width g h rows
IsGiven-from width f g h rows same is = record {
  given = is.given ∙ ap (λ rs. rs ++ rows) (same width);
  others = λ other differs. is.others other differs ∙ same other;
}

before_is : (levels : List LevelRows) (at : ℕ) → 0 < at → rows_of levels at ≡ (level_at levels (at - 1)).rows
before_is levels at some = ap (rows_of levels) (let same : at ≡ suc (at - 1) = omega (arith, some) in same)

cleaned_rows : (levels : List LevelRows) (at : ℕ) (before : LevelRows) → at - 1 < length levels → before.rows ≡ (level_at levels (at - 1)).rows → (width : ℕ) → rows_of (set levels (at - 1) before) width ≡ rows_of levels width
cleaned_rows levels at before lt same zero = refl
cleaned_rows levels at before lt same (suc other) =
    level_set levels (at - 1) other before (λ (l : LevelRows). l.rows ≡ (level_at levels other).rows) lt
    (λ is. same ∙ ap (λ n. (level_at levels n).rows) (sym is)) (λ apart. refl)

pub begun_joined : (all next : List Join) (join : Join) (came : List Element) (places : List ℕ) (at : ℕ) (levels new : List LevelRows) (after : LevelRows) (rows : List (List ℕ)) → 0 < at → AreFiled all came places levels → at < length all → slice_get all at ≡ Some join → next ≡ drop (at + 1) all → AllByRecursion (λ row. length row ≡ at + 1) rows → AllByRecursion (HaveCome came) rows → after ≡ with_rows next came (level_at levels at) rows → IsBegun (join ∷ next) came places at levels new after → IsGiven (at + 1) (rows_of levels) (rows_of new) rows × AreFiled all came places new
begun_joined all next join came places at levels new after rows some held lt there is widths come after_is begun =
    let mid = set levels (at - 1) begun.before in
    let old = held.each (at - 1) (omega (arith, lt, some, held.count)) in
    let place_before : at - 1 < length levels = omega (arith, lt, some, held.count) in
    let follows : drop ((at - 1) + 1) all ≡ join ∷ next =
    ap (λ n. drop n all) (let same : (at - 1) + 1 ≡ at = omega (arith, some) in same) ∙ drop_from all at join there ∙ ap (λ js. join ∷ js) (sym is) in
    let cleaned : IsLevelOf all came places (at - 1) begun.before = record {
      width = begun.width ∙ old.width;
      widths = subst (AllByRecursion (λ row. length row ≡ (at - 1) + 1)) (sym begun.rows) old.widths;
      have_come = subst (AllByRecursion (HaveCome came)) (sym begun.rows) old.have_come;
      filed = subst (λ js. IsFiled js came places begun.before) (sym follows) begun.filed;
    } in
    let mid_held = AreFiled-set all came places levels (at - 1) begun.before held place_before cleaned in
    let mid_lt : at < length mid = omega (arith, lt, held.count, length-set levels (at - 1) begun.before) in
    let same : level_at mid at ≡ level_at levels at = get_or-set_other levels (at - 1) at begun.before nowhere (λ wrong. omega (arith, wrong, some)) in
    let now : new ≡ set mid at (with_rows next came (level_at mid at) rows) = begun.is ∙ ap (set mid at) (after_is ∙ ap (λ l. with_rows next came l rows) (sym same)) in (
      IsGiven-from (at + 1) (rows_of mid) (rows_of levels) (rows_of new) rows (cleaned_rows levels at begun.before place_before begun.rows) (given_set next came mid new at rows mid_lt now),
      filed_set all next came places mid new at rows mid_held mid_lt is widths come now,
    )

-- the rows of such a level, among all joins
pub made_joined : (all : List Join) (join : Join) (came : List Element) (places : List ℕ) (place at : ℕ) (levels : List LevelRows) → 0 < at → AreFiled all came places levels → at < length all → slice_get all at ≡ Some join → map (with_place place) (joined (only join) came places place (level_at levels (at - 1)).rows) ≡ made (joins_of all) came places place (rows_of levels at) 0
made_joined all join came places place at levels some held lt there =
    let old = held.each (at - 1) (omega (arith, lt, some, held.count)) in
    let widths = subst (λ n. AllByRecursion (λ row. length row ≡ n) (level_at levels (at - 1)).rows) (let same : (at - 1) + 1 ≡ at = omega (arith, some) in same) old.widths in
    ap (map (with_place place)) (joined_by all join came places place at (level_at levels (at - 1)).rows there widths)
    ∙ ap (λ rows. map (with_place place) (joined (joins_of all) came places place rows)) (sym (before_is levels at some))

pub rows_widths : (all : List Join) (came : List Element) (places : List ℕ) (at : ℕ) (levels : List LevelRows) → AreFiled all came places levels → at ≤ length all → AllByRecursion (λ row. length row ≡ at) (rows_of levels at)
rows_widths all came places zero levels held le = (refl, tt)
rows_widths all came places (suc at) levels held le =
    subst (λ n. AllByRecursion (λ row. length row ≡ n) (level_at levels at).rows) (let same : at + 1 ≡ suc at = omega arith in same) (held.each at (omega (arith, le, held.count))).widths

pub rows_come : (all : List Join) (came : List Element) (places : List ℕ) (at : ℕ) (levels : List LevelRows) → AreFiled all came places levels → at ≤ length all → AllByRecursion (HaveCome came) (rows_of levels at)
rows_come all came places zero levels held le = (tt, tt)
rows_come all came places (suc at) levels held le = (held.each at (omega (arith, le, held.count))).have_come

-- the first of the rows only
pub begun_part : (all next : List Join) (join : Join) (came : List Element) (places : List ℕ) (at : ℕ) (levels new : List LevelRows) (rows : List (List ℕ)) → 0 < at → AreFiled all came places levels → at < length all → slice_get all at ≡ Some join → next ≡ drop (at + 1) all → AllByRecursion (λ row. length row ≡ at + 1) rows → AllByRecursion (HaveCome came) rows → (level : LevelRows) → IsBegun (join ∷ next) came places at levels new level → IsPart next came (level_at levels at) level rows → IsGivenPart (at + 1) (rows_of levels) (rows_of new) rows × AreFiled all came places new
begun_part all next join came places at levels new rows some held lt there is widths come level begun part =
    let first = part.1.some in
    let each = begun_joined all next join came places at levels new level first some held lt there is
    (Each-first (λ row. length row ≡ at + 1) first part.0 (subst (AllByRecursion (λ row. length row ≡ at + 1)) part.1.split widths))
    (Each-first (HaveCome came) first part.0 (subst (AllByRecursion (HaveCome came)) part.1.split come)) part.1.is begun in
    ((first, part.0, part.1.split, each.0), each.1)

pub set_part : (all next : List Join) (came : List Element) (places : List ℕ) (number : ℕ) (levels new : List LevelRows) (rows : List (List ℕ)) → AreFiled all came places levels → number < length levels → next ≡ drop (number + 1) all → AllByRecursion (λ row. length row ≡ number + 1) rows → AllByRecursion (HaveCome came) rows → (level : LevelRows) → new ≡ set levels number level → IsPart next came (level_at levels number) level rows → IsGivenPart (number + 1) (rows_of levels) (rows_of new) rows × AreFiled all came places new
set_part all next came places number levels new rows held lt is widths come level new_is part =
    let first = part.1.some in
    let now : new ≡ set levels number (with_rows next came (level_at levels number) first) = new_is ∙ ap (set levels number) part.1.is in (
      (first, part.0, part.1.split, given_set next came levels new number first lt now),
      filed_set all next came places levels new number first held lt is
          (Each-first (λ row. length row ≡ number + 1) first part.0 (subst (AllByRecursion (λ row. length row ≡ number + 1)) part.1.split widths))
          (Each-first (HaveCome came) first part.0 (subst (AllByRecursion (HaveCome came)) part.1.split come)) now,
    )

-- what comes of the last rows of a level
pub Each-drop : {X : Type 0} (P : X → Type 0) (n : ℕ) (xs : List X) → AllByRecursion P xs → AllByRecursion P (drop n xs)
Each-drop P zero xs each = each
Each-drop P (suc n) [] each = tt
Each-drop P (suc n) (x ∷ xs) each = Each-drop P n xs each.1

pub record Grows (all : List Join) (join : Join) (came : List Element) (places : List ℕ) (number first : ℕ) (levels : List LevelRows) : Type 0 where
  pub is : grown (only join) came places (drop first (level_at levels (number - 1)).rows) ≡ grown (joins_of all) came places (drop first (rows_of levels number))
  pub widths : AllByRecursion (λ row. length row ≡ number + 1) (grown (only join) came places (drop first (level_at levels (number - 1)).rows))
  pub come : AllByRecursion (HaveCome came) (grown (only join) came places (drop first (level_at levels (number - 1)).rows))
  pub before_come : AllByRecursion (HaveCome came) (level_at levels (number - 1)).rows
  pub width : (level_at levels (number - 1)).width + 1 ≡ (level_at levels number).width
  pub number_is : rows_of levels number ≡ (level_at levels (number - 1)).rows

pub grows : (all : List Join) (join : Join) (came : List Element) (places : List ℕ) (number first : ℕ) (levels : List LevelRows) → 0 < number → AreFiled all came places levels → number < length all → slice_get all number ≡ Some join → AllByRecursion (λ p. p < length came) places → Grows all join came places number first levels
grows all join came places number first levels some held lt there below =
    let rows = drop first (level_at levels (number - 1)).rows in
    let old = held.each (number - 1) (omega (arith, lt, some, held.count)) in
    let this = held.each number (omega (arith, lt, held.count)) in
    let widths : AllByRecursion (λ row. length row ≡ number) rows =
    Each-drop (λ row. length row ≡ number) first (level_at levels (number - 1)).rows (subst (λ n. AllByRecursion (λ row. length row ≡ n) (level_at levels (number - 1)).rows) (let same : (number - 1) + 1 ≡ number = omega (arith, some) in same) old.widths) in
    record {
      is = grown_by all join came places number rows there widths ∙ ap (λ rs. grown (joins_of all) came places (drop first rs)) (sym (before_is levels number some));
      widths = grown-widths (only join) came places number rows widths;
      come = grown-come (only join) came places rows below (Each-drop (HaveCome came) first (level_at levels (number - 1)).rows old.have_come);
      before_come = old.have_come;
      width = omega (arith, old.width, this.width, some);
      number_is = before_is levels number some;
    }

-- an item by its place
pub get_or-is : {X : Type 0} (xs : List X) (i : ℕ) (x d : X) → slice_get xs i ≡ Some x → get_or xs i d ≡ x
get_or-is [] i x d at = absurd (let wrong : ⊥ = cc in wrong)
get_or-is (y ∷ xs) zero x d at = let same : y ≡ x = cc in same
get_or-is (y ∷ xs) (suc i) x d at = get_or-is xs i x d at

pub within-is : {X : Type 0} (xs : List X) (i : ℕ) (x : X) → slice_get xs i ≡ Some x → i < length xs
within-is [] i x at = absurd (let wrong : ⊥ = cc in wrong)
within-is (y ∷ xs) zero x at = omega arith
within-is (y ∷ xs) (suc i) x at = omega (arith, within-is xs i x at)
