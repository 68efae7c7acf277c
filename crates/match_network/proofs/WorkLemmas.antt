-- What is tried for a rule where an element comes is no more than its partial matches give work.
use Rattle.std.proofs.Common.{◌≡◌, ℕ, ◌+◌, ◌-◌, ◌<◌, ◌≤◌, List, [], ◌∷◌, ◌++◌, Bool, true, false, not, cond, ◌&&◌, ◌||◌, length, map, reverse, zero, suc, refl, ap, subst, sym, ◌∙◌, arith, inl, inr, Option, None, Some, slice_get}
use Rattle.std.specs.List.{AllByRecursion, enumerate_from, filter}
use Rattle.std.specs.Option.{option_map_or}
use Rattle.std.proofs.lemmas.Bool.{cases_lt, eq-eqb}
use Rattle.std.proofs.lemmas.List.{append-nil}
use Rattle.std.proofs.lemmas.List.Elements.{filter-append}
use Rattle.rule_base.specs.declared.element.Element.{Element}
use Rattle.rule_base.specs.Numbers.{has_number}
use Rattle.rule_base.proofs.EachLemmas.{Each-weaker}
use Rattle.join_tests.specs.declared.joins.Join.{Join}
use Rattle.alpha_memory.specs.Times.{times}
use Rattle.alpha_memory.proofs.TimesLemmas.{times-append, times-none}
use Rattle.match_network.specs.Conditions.{AreFiled, joins_of, level_at, rows_of}
use Rattle.match_network.specs.Filed.{LevelRows, passes_at}
use Rattle.match_network.specs.JoinWork.{join_work, partial_matches, work_at}
use Rattle.match_network.specs.Levels.{AreWoven}
use Rattle.match_network.specs.Row.{Joins, extends, is_living}
use Rattle.match_network.specs.Tried.{at_number, has_key, pairs_tried, places_tried, rows_tried, tries, woven_tried}
use Rattle.match_network.specs.Woven.{Levels, grown, joined, made, with_place}
use Rattle.match_network.proofs.GivenLemmas.{rows_widths}
use Rattle.match_network.proofs.LevelLemmas.{lived_before}
use Rattle.match_network.proofs.MatchLemmas.{is_other, level_below, made_below, match_among}
use Rattle.match_network.proofs.RowLemmas.{has_number-push}
use Rattle.match_network.proofs.SumLemmas.{sum-total, times-total, total, total-filter, total-same, up_to, up_to-add, up_to-front, up_to-le, up_to-none, up_to-same}

-- counts as sums
pairs-total : (join : Join) (came : List Element) (places : List ℕ) (rows : List (List ℕ)) → pairs_tried join came places rows ≡ total (places_tried join came places) rows
pairs-total join came places [] = refl
pairs-total join came places (row ∷ rows) = ap (λ n. places_tried join came places row + n) (pairs-total join came places rows)

rows-total : (join : Join) (came : List Element) (places : List ℕ) (place : ℕ) (rows : List (List ℕ)) → rows_tried join came places place rows ≡ total (λ row. cond (has_key join came row place) 1 0) (filter (is_other places place) rows)
rows-total join came places place rows =
    times-total (λ row. is_living places row && tries join came place row) rows
    ∙ total-same (λ row. cond (is_living places row && tries join came place row) 1 0) (λ row. cond (is_other places place row) (cond (has_key join came row place) 1 0) 0)
    (λ row. step (is_living places row) (not (has_number row place)) (has_key join came row place)) rows
    ∙ sym (total-filter (λ row. cond (has_key join came row place) 1 0) (is_other places place) rows)
  where
    step : (a b c : Bool) → ◌≡◌ {A = ℕ} (cond (a && (b && c)) 1 0) (cond (a && b) (cond c 1 0) 0)
    step true true c = refl
    step true false c = refl
    step false b c = refl

-- a count at a condition element, if there is one
at_none : (all : List Join) (number : ℕ) (count : Join → ℕ) → slice_get all number ≡ None → at_number all number count ≡ 0
at_none all number count is = ap (λ o. option_map_or count o 0) is

at_some : (all : List Join) (number : ℕ) (count : Join → ℕ) (join : Join) → slice_get all number ≡ Some join → at_number all number count ≡ count join
at_some all number count join is = ap (λ o. option_map_or count o 0) is

at_number-le : (all : List Join) (number : ℕ) (count other : Join → ℕ) → ((join : Join) → slice_get all number ≡ Some join → count join ≤ other join) → at_number all number count ≤ at_number all number other
at_number-le all number count other le = by (slice_get all number) refl
  where
    by : (o : Option Join) → slice_get all number ≡ o → at_number all number count ≤ at_number all number other
    by None is = omega (arith, at_none all number count is)
    by (Some join) is = omega (arith, at_some all number count join is, at_some all number other join is, le join is)

-- whether an element passes at a condition element with a number
abbrev pub passes_here : List Join → List Element → ℕ → ℕ → Bool
passes_here all came place at = option_map_or (λ join. passes_at join came place) (slice_get all at) false

-- what is known where an element has come to a place, and nothing was woven in yet
pub record IsComing (all : List Join) (came : List Element) (places : List ℕ) (place : ℕ) (levels : Levels) : Type 0 where
  pub woven : AreWoven (joins_of all) came (places ++ place ∷ []) place [] levels
  pub widths : (n : ℕ) → AllByRecursion (λ row. length row ≡ n) (levels n)

-- the rows that are tried with the place
rows_below : (all : List Join) (came : List Element) (places : List ℕ) (place : ℕ) (levels : Levels) → IsComing all came places place levels → (number : ℕ) (join : Join) → rows_tried join came (places ++ place ∷ []) place (levels number) ≤ times (λ row. has_key join came row place) (partial_matches (joins_of all) came places number)
rows_below all came places place levels coming number join =
    let key : List ℕ → ℕ = λ row. cond (has_key join came row place) 1 0 in
    let below = level_below (joins_of all) came (places ++ place ∷ []) place levels number (partial_matches (joins_of all) came places number) coming.woven (coming.widths number)
    (λ row long living without matches. match_among (joins_of all) came places number row long (lived_before places place row without living) matches) key in
    omega (arith, rows-total join came (places ++ place ∷ []) place (levels number), below, times-total (λ row. has_key join came row place) (partial_matches (joins_of all) came places number))

-- the rows with the place that are tried at a condition element
pairs_below : (all : List Join) (came : List Element) (places : List ℕ) (place : ℕ) (levels : Levels) → IsComing all came places place levels → (number : ℕ) (join : Join) → up_to number (λ at. pairs_tried join came (places ++ place ∷ []) (made (joins_of all) came (places ++ place ∷ []) place (levels at) (number - (at + 1))))
    ≤ pairs_tried join came (places ++ place ∷ []) (filter (λ row. has_number row place) (partial_matches (joins_of all) came (places ++ place ∷ []) number))
pairs_below all came places place levels coming number join =
    let now = places ++ place ∷ [] in
    let rows : ℕ → List (List ℕ) = λ at. made (joins_of all) came now place (levels at) (number - (at + 1)) in
    omega (
      arith,
      up_to-same number (λ at. pairs_tried join came now (rows at)) (λ at. total (places_tried join came now) (rows at)) (λ at lt. pairs-total join came now (rows at)),
      made_below (joins_of all) came now place levels (is_there places place) coming.woven coming.widths number (places_tried join came now),
      pairs-total join came now (filter (λ row. has_number row place) (partial_matches (joins_of all) came now number)),
    )
  where
    is_there : (ps : List ℕ) (p : ℕ) → has_number (ps ++ p ∷ []) p ≡ true
    is_there ps p = has_number-push ps p p ∙ ap (λ b. has_number ps p || b) (eq-eqb p p refl) ∙ or_true (has_number ps p)
      where
        or_true : (b : Bool) → (b || true) ≡ true
        or_true true = refl
        or_true false = refl

-- all that is tried at the condition elements up to one, for those up to one
abbrev tried_up_to : List Join → List Element → List ℕ → ℕ → Levels → ℕ → ℕ
tried_up_to all came places place levels number =
    up_to number (λ at. cond (passes_here all came place at) (woven_tried all came places place at (levels at) (number - (at + 1))) 0)

abbrev work_up_to : List Join → List Element → List ℕ → ℕ → ℕ → ℕ
work_up_to all came places place number = up_to number (λ n. at_number all n (work_at all came places place n))

-- one condition element more
abbrev pairs_at : List Join → List Element → List ℕ → ℕ → Levels → ℕ → ℕ → ℕ
pairs_at all came places place levels number at =
    at_number all number (λ join. pairs_tried join came places (made (joins_of all) came places place (levels at) (number - (at + 1))))

tried_next : (all : List Join) (came : List Element) (places : List ℕ) (place : ℕ) (levels : Levels) (number at : ℕ) → at < number →
    cond (passes_here all came place at) (woven_tried all came places place at (levels at) (suc number - (at + 1))) 0
    ≤ cond (passes_here all came place at) (woven_tried all came places place at (levels at) (number - (at + 1))) 0 + pairs_at all came places place levels number at
tried_next all came places place levels number at lt =
    let further : ℕ = number - (at + 1) in
    let tried : ℕ → ℕ = woven_tried all came places place at (levels at) in
    let more : suc number - (at + 1) ≡ suc further = omega (arith, lt) in
    let here : at + further + 1 ≡ number = omega (arith, lt) in
    let next : tried (suc number - (at + 1)) ≡ tried further + pairs_at all came places place levels number at =
    ap tried more ∙ ap (λ n. tried further + at_number all n (λ join. pairs_tried join came places (made (joins_of all) came places place (levels at) further))) here in
    step (passes_here all came place at) (tried (suc number - (at + 1))) (tried further) (pairs_at all came places place levels number at) next
  where
    step : (b : Bool) (a c d : ℕ) → a ≡ c + d → cond b a 0 ≤ cond b c 0 + d
    step true a c d is = omega (arith, is)
    step false a c d is = omega arith

pairs_next : (all : List Join) (came : List Element) (places : List ℕ) (place : ℕ) (levels : Levels) → IsComing all came places place levels → (number : ℕ) → up_to number (pairs_at all came (places ++ place ∷ []) place levels number)
    ≤ at_number all number (λ join. pairs_tried join came (places ++ place ∷ []) (filter (λ row. has_number row place) (partial_matches (joins_of all) came (places ++ place ∷ []) number)))
pairs_next all came places place levels coming number = by (slice_get all number) refl
  where
    now : List ℕ
    now = places ++ place ∷ []

    pairs : ℕ → Join → ℕ
    pairs at join = pairs_tried join came now (made (joins_of all) came now place (levels at) (number - (at + 1)))

    most : Join → ℕ
    most join = pairs_tried join came now (filter (λ row. has_number row place) (partial_matches (joins_of all) came now number))

    by : (o : Option Join) → slice_get all number ≡ o → up_to number (λ at. at_number all number (pairs at)) ≤ at_number all number most
    by None is = omega (arith, up_to-same number (λ at. at_number all number (pairs at)) (λ at. 0) (λ at lt. at_none all number (pairs at) is), up_to-none number)
    by (Some join) is = omega (
      arith,
      up_to-same number (λ at. at_number all number (pairs at)) (λ at. pairs at join) (λ at lt. at_some all number (pairs at) join is),
      pairs_below all came places place levels coming number join,
      at_some all number most join is,
    )

first_next : (all : List Join) (came : List Element) (places : List ℕ) (place : ℕ) (levels : Levels) → IsComing all came places place levels → (number : ℕ) →
    cond (passes_here all came place number) (woven_tried all came (places ++ place ∷ []) place number (levels number) (suc number - (number + 1))) 0
    + at_number all number (λ join. pairs_tried join came (places ++ place ∷ []) (filter (λ row. has_number row place) (partial_matches (joins_of all) came (places ++ place ∷ []) number)))
    ≤ at_number all number (work_at all came places place number)
first_next all came places place levels coming number = by (slice_get all number) refl
  where
    now : List ℕ
    now = places ++ place ∷ []

    tried : ℕ → ℕ
    tried = woven_tried all came now place number (levels number)

    most : Join → ℕ
    most join = pairs_tried join came now (filter (λ row. has_number row place) (partial_matches (joins_of all) came now number))

    step : (b : Bool) (a c : ℕ) → a ≤ c → cond b a 0 ≤ cond b c 0
    step true a c le = le
    step false a c le = omega arith

    by : (o : Option Join) → slice_get all number ≡ o → cond (passes_here all came place number) (tried (suc number - (number + 1))) 0 + at_number all number most ≤ at_number all number (work_at all came places place number)
    by None is =
        let none : cond (passes_here all came place number) (tried (suc number - (number + 1))) 0 ≡ 0 = ap (λ o. cond (option_map_or (λ join. passes_at join came place) o false) (tried (suc number - (number + 1))) 0) is in
        omega (arith, none, at_none all number most is)
    by (Some join) is =
        let rows = rows_tried join came now place (levels number) in
        let first : tried (suc number - (number + 1)) ≡ rows =
        ap tried (let none : suc number - (number + 1) ≡ 0 = omega arith in none) ∙ at_some all number (λ j. rows_tried j came now place (levels number)) join is in
        let passed : cond (passes_here all came place number) (tried (suc number - (number + 1))) 0 ≡ cond (passes_at join came place) rows 0 =
        ap (λ n. cond (passes_here all came place number) n 0) first ∙ ap (λ o. cond (option_map_or (λ j. passes_at j came place) o false) rows 0) is in
        omega (
          arith,
          passed,
          step (passes_at join came place) rows (times (λ row. has_key join came row place) (partial_matches (joins_of all) came places number)) (rows_below all came places place levels coming number join),
          at_some all number most join is,
          at_some all number (work_at all came places place number) join is,
        )

tried_below : (all : List Join) (came : List Element) (places : List ℕ) (place : ℕ) (levels : Levels) → IsComing all came places place levels → (number : ℕ) → tried_up_to all came (places ++ place ∷ []) place levels number ≤ work_up_to all came places place number
tried_below all came places place levels coming zero = omega arith
tried_below all came places place levels coming (suc number) =
    let now = places ++ place ∷ [] in
    let before : ℕ → ℕ = λ at. cond (passes_here all came place at) (woven_tried all came now place at (levels at) (number - (at + 1))) 0 in
    let after : ℕ → ℕ = λ at. cond (passes_here all came place at) (woven_tried all came now place at (levels at) (suc number - (at + 1))) 0 in
    let pairs : ℕ → ℕ = pairs_at all came now place levels number in
    omega (
      arith,
      up_to-le number after (λ at. before at + pairs at) (λ at lt. tried_next all came now place levels number at lt),
      up_to-add number before pairs,
      pairs_next all came places place levels coming number,
      first_next all came places place levels coming number,
      tried_below all came places place levels coming number,
    )

-- the work at all condition elements is the sum over their numbers
at_from : (count : ℕ → Join → ℕ) (first : ℕ) (all : List Join) → total (λ (numbered : ℕ × Join). count numbered.0 numbered.1) (enumerate_from first all) ≡ up_to (length all) (λ n. at_number all n (count (first + n)))
at_from count first [] = refl
at_from count first (join ∷ all) =
    let here : count (first + 0) join ≡ count first join = ap (λ n. count n join) (let same : first + 0 ≡ first = omega arith in same) in
    let rest = up_to-same (length all) (λ n. at_number all n (count (first + 1 + n))) (λ n. at_number all n (count (first + suc n)))
    (λ n lt. ap (λ k. at_number all n (count k)) (let same : first + 1 + n ≡ first + suc n = omega arith in same)) in
    omega (arith, here, rest, at_from count (first + 1) all, up_to-front (length all) (λ n. at_number (join ∷ all) n (count (first + n))))

work_is : (all : List Join) (came : List Element) (places : List ℕ) (place : ℕ) → join_work all came places place ≡ work_up_to all came places place (length all)
work_is all came places place =
    sum-total (λ (numbered : ℕ × Join). work_at all came places place numbered.0 numbered.1) (enumerate_from 0 all)
    ∙ at_from (work_at all came places place) 0 all
    ∙ up_to-same (length all) (λ n. at_number all n (work_at all came places place (0 + n))) (λ n. at_number all n (work_at all came places place n))
    (λ n lt. ap (λ k. at_number all n (work_at all came places place k)) (let same : 0 + n ≡ n = omega arith in same))

pub rule_below : (all : List Join) (came : List Element) (places : List ℕ) (place : ℕ) (levels : Levels) → IsComing all came places place levels → up_to (length all) (λ at. cond (passes_here all came place at) (woven_tried all came (places ++ place ∷ []) place at (levels at) (length all - (at + 1))) 0) ≤ join_work all came places place
rule_below all came places place levels coming = omega (arith, tried_below all came places place levels coming (length all), work_is all came places place)

-- levels have rows of their width, where there is a level
pub all_widths : (all : List Join) (came : List Element) (places : List ℕ) (levels : List LevelRows) → AreFiled all came places levels → (n : ℕ) → AllByRecursion (λ row. length row ≡ n) (rows_of levels n)
all_widths all came places levels held zero = (refl, tt)
all_widths all came places levels held (suc n) = elim (cases_lt (length levels) (suc n)) [
  | inl past ↦ subst (λ (level : LevelRows). AllByRecursion (λ row. length row ≡ suc n) level.rows) (sym (past_levels levels n (omega (arith, past)))) tt
  | inr within ↦ rows_widths all came places (suc n) levels held (omega (arith, within, held.count))
]
  where
    past_levels : (ls : List LevelRows) (k : ℕ) → length ls ≤ k → level_at ls k ≡ record { width = 0; rows = []; entries = [] }
    past_levels [] k le = refl
    past_levels (l ∷ ls) zero le = absurd (omega (arith, le))
    past_levels (l ∷ ls) (suc k) le = past_levels ls k (omega (arith, le))

-- rows with the place change nothing in what is tried
joined-more : (joins : Joins) (came : List Element) (places : List ℕ) (place : ℕ) (rows more : List (List ℕ)) → AllByRecursion (λ row. has_number row place ≡ true) more → joined joins came places place (rows ++ more) ≡ joined joins came places place rows
joined-more joins came places place rows more have =
    let keep : List ℕ → Bool = λ row. is_other places place row && extends joins came row place in
    ap reverse (filter-append keep rows more ∙ ap (λ rs. filter keep rows ++ rs) (none more have) ∙ append-nil (filter keep rows))
  where
    out : (row : List ℕ) (living : Bool) → has_number row place ≡ true → ((living && not (has_number row place)) && extends joins came row place) ≡ false
    out row true has = ap (λ b. not b && extends joins came row place) has
    out row false has = refl

    none : (rs : List (List ℕ)) → AllByRecursion (λ row. has_number row place ≡ true) rs → filter (λ row. (is_living places row && not (has_number row place)) && extends joins came row place) rs ≡ []
    none [] all = refl
    none (row ∷ rs) all =
        ap (λ b. cond b (row ∷ filter (λ r. (is_living places r && not (has_number r place)) && extends joins came r place) rs) (filter (λ r. (is_living places r && not (has_number r place)) && extends joins came r place) rs)) (out row (is_living places row) all.0)
        ∙ none rs all.1

made-more : (joins : Joins) (came : List Element) (places : List ℕ) (place : ℕ) (rows more : List (List ℕ)) → AllByRecursion (λ row. has_number row place ≡ true) more → (further : ℕ) → made joins came places place (rows ++ more) further ≡ made joins came places place rows further
made-more joins came places place rows more have zero = ap (map (with_place place)) (joined-more joins came places place rows more have)
made-more joins came places place rows more have (suc further) = ap (grown joins came places) (made-more joins came places place rows more have further)

rows-more : (join : Join) (came : List Element) (places : List ℕ) (place : ℕ) (rows more : List (List ℕ)) → AllByRecursion (λ row. has_number row place ≡ true) more → rows_tried join came places place (rows ++ more) ≡ rows_tried join came places place rows
rows-more join came places place rows more have =
    let test : List ℕ → Bool = λ row. is_living places row && tries join came place row in
    let none = times-none test more (Each-weaker (λ row. has_number row place ≡ true) (λ row. test row ≡ false) (λ row has. out row (is_living places row) has) more have) in
    let all : times test (rows ++ more) ≡ times test rows = omega (arith, times-append test rows more, none) in all
  where
    out : (row : List ℕ) (living : Bool) → has_number row place ≡ true → (living && tries join came place row) ≡ false
    out row true has = ap (λ b. not b && has_key join came row place) has
    out row false has = refl

pub tried-more : (all : List Join) (came : List Element) (places : List ℕ) (place at : ℕ) (rows more : List (List ℕ)) → AllByRecursion (λ row. has_number row place ≡ true) more → (further : ℕ) → woven_tried all came places place at (rows ++ more) further ≡ woven_tried all came places place at rows further
tried-more all came places place at rows more have zero = by (slice_get all at)
  where
    by : (o : Option Join) → option_map_or (λ join. rows_tried join came places place (rows ++ more)) o 0 ≡ option_map_or (λ join. rows_tried join came places place rows) o 0
    by None = refl
    by (Some join) = rows-more join came places place rows more have
tried-more all came places place at rows more have (suc further) =
    ap (λ n. n + at_number all (at + further + 1) (λ join. pairs_tried join came places (made (joins_of all) came places place (rows ++ more) further))) (tried-more all came places place at rows more have further)
    ∙ ap (λ rs. woven_tried all came places place at rows further + at_number all (at + further + 1) (λ join. pairs_tried join came places rs)) (made-more (joins_of all) came places place rows more have further)
