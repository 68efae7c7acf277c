-- The partial matches of a memory, against the rows that levels hold and those that a weave makes.
use Rattle.std.proofs.Common.{◌≡◌, ℕ, ◌+◌, ◌-◌, ◌<◌, ◌≤◌, ◌==◌, List, [], ◌∷◌, ◌++◌, Bool, true, false, not, cond, ◌&&◌, ◌||◌, length, map, zero, suc, refl, ap, subst, sym, ◌∙◌, arith, length-append, inl, inr}
use Rattle.std.specs.List.{AllByRecursion, filter, flat_map}
use Rattle.std.proofs.lemmas.Bool.{and_parts, cases_eq, eq-eqb, eqb-true}
use Rattle.std.proofs.lemmas.List.Concat.{flat_map-cons}
use Rattle.rule_base.specs.declared.element.Element.{Element}
use Rattle.rule_base.specs.Numbers.{has_number, same_numbers}
use Rattle.rule_base.proofs.EachLemmas.{Each-weaker}
use Rattle.alpha_memory.specs.Times.{times}
use Rattle.alpha_memory.proofs.TimesLemmas.{times-agree, times-and, times-append, times-filter, times-map, times-none}
use Rattle.match_network.specs.JoinWork.{partial_matches}
use Rattle.match_network.specs.Levels.{AreWoven}
use Rattle.match_network.specs.Row.{Joins, extends, is_living, is_match}
use Rattle.match_network.specs.Woven.{Levels, grown, joined, made, offered, with_place}
use Rattle.match_network.proofs.RowLemmas.{has_number-push, is_living-push, is_match-push, last_of, same_numbers-push, same_row, same_self}
use Rattle.match_network.proofs.SumLemmas.{total, total-below, total-filter, total-flat_map, total-le, total-map, total-one, total-reverse, total-same, total-split, up_to, up_to-same}
use Rattle.match_network.proofs.WeaveLemmas.{kept-times}

-- what is made of something that is there
some_made : {X Y : Type 0} (test : Y → Bool) (same : X → Bool) (f : X → List Y) → ((x : X) → same x ≡ true → 0 < times test (f x)) → (xs : List X) → 0 < times same xs → 0 < times test (flat_map f xs)
some_made test same f makes [] some = absurd (omega (arith, some))
some_made test same f makes (x ∷ xs) some =
    let both : times test (flat_map f (x ∷ xs)) ≡ times test (f x) + times test (flat_map f xs) = ap (times test) (flat_map-cons f x xs) ∙ times-append test (f x) (flat_map f xs) in
    omega (arith, both, step (same x) refl some (some_made test same f makes xs))
  where
    step : (b : Bool) → same x ≡ b → 0 < cond b 1 0 + times same xs → (0 < times same xs → 0 < times test (flat_map f xs)) → 0 < times test (f x) + times test (flat_map f xs)
    step true is more rest = omega (arith, makes x is)
    step false is more rest = omega (arith, rest (omega (arith, more)))

pub same_place : (a b : ℕ) → (a == b) ≡ true → a ≡ b
same_place a b is = eqb-true a b is

has_some : (places : List ℕ) (place : ℕ) → has_number places place ≡ true → 0 < times (λ p. place == p) places
has_some [] place has = absurd (let wrong : ⊥ = cc in wrong)
has_some (p ∷ places) place has = step (p == place) refl has (has_some places place)
  where
    step : (b : Bool) → (p == place) ≡ b → (b || has_number places place) ≡ true → (has_number places place ≡ true → 0 < times (λ q. place == q) places) → 0 < cond (place == p) 1 0 + times (λ q. place == q) places
    step true is here rest =
        let first : ◌≡◌ {A = ℕ} (cond (place == p) 1 0) 1 = ap (λ b. cond b 1 0) (eq-eqb place p (sym (eqb-true p place is))) in
        omega (arith, first)
    step false is here rest = omega (arith, rest here)

-- each living match is among them
one_more : (joins : Joins) (came : List Element) (places row : List ℕ) (last : ℕ) (other : List ℕ) → has_number places last ≡ true → extends joins came row last ≡ true → same_numbers row other ≡ true → 0 < times (same_numbers (row ++ last ∷ [])) (map (λ p. with_place p other) (filter (extends joins came other) places))
one_more joins came places row last other has joined same =
    let counted : times (same_numbers (row ++ last ∷ [])) (map (λ p. with_place p other) (filter (extends joins came other) places)) ≡ times (λ p. last == p) places =
    times-map (same_numbers (row ++ last ∷ [])) (λ p. with_place p other) (filter (extends joins came other) places)
    ∙ times-agree (λ p. same_numbers (row ++ last ∷ []) (other ++ p ∷ [])) (λ p. last == p) (λ p. same_numbers-push row other last p ∙ ap (λ b. b && (last == p)) same) (filter (extends joins came other) places)
    ∙ kept-times joins came places row last other same
    ∙ ap (λ b. cond b (times (λ p. last == p) places) 0) joined in
    omega (arith, counted, has_some places last has)

pub match_among : (joins : Joins) (came : List Element) (places : List ℕ) (number : ℕ) (row : List ℕ) → length row ≡ number → is_living places row ≡ true → is_match joins came row ≡ true → 0 < times (same_numbers row) (partial_matches joins came places number)
match_among joins came places zero [] long living matches =
    let one : times (same_numbers []) ([] ∷ []) ≡ 1 + 0 = ap (λ b. cond b 1 0 + 0) (same_self []) in
    omega (arith, one)
match_among joins came places zero (place ∷ row) long living matches = absurd (omega (arith, long))
match_among joins came places (suc number) row long living matches =
    let parts = last_of row (omega (arith, long)) in
    let init = parts.0 in
    let last = parts.1 in
    let is : row ≡ init ++ last ∷ [] = parts.2 in
    let alive = and_parts (is_living places init) (has_number places last) (sym (is_living-push places init last) ∙ ap (is_living places) (sym is) ∙ living) in
    let goes = and_parts (is_match joins came init) (extends joins came init last) (sym (is_match-push joins came init last) ∙ ap (is_match joins came) (sym is) ∙ matches) in
    let short : length init ≡ number = omega (arith, long, ap length is, length-append init (last ∷ [])) in
    let before = match_among joins came places number init short alive.0 goes.0 in
    let there : 0 < times (same_numbers (init ++ last ∷ [])) (partial_matches joins came places (suc number)) =
    some_made (same_numbers (init ++ last ∷ [])) (same_numbers init) (λ r. map (λ p. with_place p r) (filter (extends joins came r) places))
    (λ other same. one_more joins came places init last other alive.1 goes.1 same) (partial_matches joins came places number) before in
    subst (λ r. 0 < times (same_numbers r) (partial_matches joins came places (suc number))) (sym is) there

-- how often a filter leaves a row
pub kept_times : (keep : List ℕ → Bool) (row : List ℕ) (rows : List (List ℕ)) → times (same_numbers row) (filter keep rows) ≡ cond (keep row) (times (same_numbers row) rows) 0
kept_times keep row rows =
    times-filter (same_numbers row) keep rows
    ∙ times-agree (λ other. same_numbers row other && keep other) (λ other. same_numbers row other && keep row) (λ other. step (same_numbers row other) (keep other) (keep row) (λ same. ap keep (sym (same_row row other same)))) rows
    ∙ times-and (same_numbers row) (keep row) rows
  where
    step : (same a b : Bool) → (same ≡ true → a ≡ b) → (same && a) ≡ (same && b)
    step true a b is = is refl
    step false a b is = refl

-- whether a row is of living elements, without a place
abbrev pub is_other : List ℕ → ℕ → List ℕ → Bool
is_other places place row = is_living places row && not (has_number row place)

-- the rows of a level that are living matches without a place are among any rows that have all of those
pub level_below : (joins : Joins) (came : List Element) (places : List ℕ) (place : ℕ) (levels : Levels) (number : ℕ) (all : List (List ℕ)) → AreWoven joins came places place [] levels → AllByRecursion (λ row. length row ≡ number) (levels number) → ((row : List ℕ) → length row ≡ number → is_living places row ≡ true → has_number row place ≡ false → is_match joins came row ≡ true → 0 < times (same_numbers row) all) → (f : List ℕ → ℕ) → total f (filter (is_other places place) (levels number)) ≤ total f all
level_below joins came places place levels number all held widths among f =
    total-below same_numbers same_row same_self (filter (is_other places place) (levels number)) all
    (λ row. omega (arith, kept_times (is_other places place) row (levels number), by row (is_living places row) (has_number row place) refl refl)) f
  where
    counted : (row : List ℕ) (matches : Bool) → is_match joins came row ≡ matches → length row ≡ number → is_living places row ≡ true → has_number row place ≡ false → times (same_numbers row) (levels number) ≤ times (same_numbers row) all
    counted row true is long living without =
        let once : times (same_numbers row) (levels number) ≡ 1 =
        ap (λ n. times (same_numbers row) (levels n)) (sym long) ∙ held.once row living ∙ ap (λ b. cond (b && (not (has_number row place) || false)) 1 0) is ∙ ap (λ b. cond (not b || false) 1 0) without in
        omega (arith, once, among row long living without is)
    counted row false is long living without =
        let none : times (same_numbers row) (levels number) ≡ 0 =
        ap (λ n. times (same_numbers row) (levels n)) (sym long) ∙ held.once row living ∙ ap (λ b. cond (b && (not (has_number row place) || false)) 1 0) is in
        omega (arith, none)

    other_width : (row : List ℕ) → (length row ≡ number → ⊥) → times (same_numbers row) (levels number) ≡ 0
    other_width row apart =
        times-none (same_numbers row) (levels number)
        (Each-weaker (λ other. length other ≡ number) (λ other. same_numbers row other ≡ false)
        (λ other long. differs (same_numbers row other) other refl (λ same. apart (ap length same ∙ long))) (levels number) widths)
      where
        differs : (same : Bool) (other : List ℕ) → same_numbers row other ≡ same → (row ≡ other → ⊥) → same_numbers row other ≡ false
        differs true other is not_same = absurd (not_same (same_row row other is))
        differs false other is not_same = is

    by : (row : List ℕ) (living has : Bool) → is_living places row ≡ living → has_number row place ≡ has → cond (is_other places place row) (times (same_numbers row) (levels number)) 0 ≤ times (same_numbers row) all
    by row false has living without =
        let none : cond (is_other places place row) (times (same_numbers row) (levels number)) 0 ≡ 0 = ap (λ b. cond (b && not (has_number row place)) (times (same_numbers row) (levels number)) 0) living in
        omega (arith, none)
    by row true true living without =
        let none : cond (is_other places place row) (times (same_numbers row) (levels number)) 0 ≡ 0 =
        ap (λ b. cond (b && not (has_number row place)) (times (same_numbers row) (levels number)) 0) living ∙ ap (λ b. cond (not b) (times (same_numbers row) (levels number)) 0) without in
        omega (arith, none)
    by row true false living without =
        let all_of : cond (is_other places place row) (times (same_numbers row) (levels number)) 0 ≡ times (same_numbers row) (levels number) =
        ap (λ b. cond (b && not (has_number row place)) (times (same_numbers row) (levels number)) 0) living ∙ ap (λ b. cond (not b) (times (same_numbers row) (levels number)) 0) without in
        elim (cases_eq (length row) number) [
          | inl long ↦ omega (arith, all_of, counted row (is_match joins came row) refl long living without)
          | inr apart ↦ omega (arith, all_of, other_width row apart)
        ]

-- what weaving makes at all condition elements up to one is among the partial matches with the place
grown-total : (joins : Joins) (came : List Element) (places : List ℕ) (rows : List (List ℕ)) (f : List ℕ → ℕ) → total f (grown joins came places rows) ≡ total (λ row. total (λ p. f (with_place p row)) (filter (extends joins came row) places)) rows
grown-total joins came places rows f =
    total-flat_map f (λ row. map (λ p. with_place p row) (offered joins came places row)) rows
    ∙ total-same (λ row. total f (map (λ p. with_place p row) (offered joins came places row))) (λ row. total (λ p. f (with_place p row)) (filter (extends joins came row) places))
    (λ row. total-map f (λ p. with_place p row) (offered joins came places row) ∙ total-reverse (λ p. f (with_place p row)) (filter (extends joins came row) places)) rows

joined-total : (joins : Joins) (came : List Element) (places : List ℕ) (place : ℕ) (rows : List (List ℕ)) (f : List ℕ → ℕ) → total f (map (with_place place) (joined joins came places place rows)) ≡ total (λ row. cond (extends joins came row place) (f (with_place place row)) 0) (filter (is_other places place) rows)
joined-total joins came places place rows f =
    let keep : List ℕ → Bool = λ row. is_other places place row && extends joins came row place in
    total-map f (with_place place) (joined joins came places place rows)
    ∙ total-reverse (λ row. f (with_place place row)) (filter keep rows)
    ∙ total-filter (λ row. f (with_place place row)) keep rows
    ∙ total-same (λ row. cond (keep row) (f (with_place place row)) 0) (λ row. cond (is_other places place row) (cond (extends joins came row place) (f (with_place place row)) 0) 0)
    (λ row. step (is_other places place row) (extends joins came row place) (f (with_place place row))) rows
    ∙ sym (total-filter (λ row. cond (extends joins came row place) (f (with_place place row)) 0) (is_other places place) rows)
  where
    step : (a b : Bool) (n : ℕ) → cond (a && b) n 0 ≡ cond a (cond b n 0) 0
    step true b n = refl
    step false b n = refl

-- a partial match of one place more has the place where the others have it, or the last is the place
with-total : (joins : Joins) (came : List Element) (places : List ℕ) (place number : ℕ) (f : List ℕ → ℕ) → has_number places place ≡ true →
    total (λ row. total (λ p. f (with_place p row)) (filter (extends joins came row) places)) (filter (λ row. has_number row place) (partial_matches joins came places number))
    + total (λ row. cond (extends joins came row place) (f (with_place place row)) 0) (filter (λ row. not (has_number row place)) (partial_matches joins came places number))
    ≤ total f (filter (λ row. has_number row place) (partial_matches joins came places (suc number)))
with-total joins came places place number f has =
    let before = partial_matches joins came places number in
    let kept : List ℕ → ℕ = λ row. cond (has_number row place) (f row) 0 in
    let with : List ℕ → ℕ = λ row. total (λ p. f (with_place p row)) (filter (extends joins came row) places) in
    let new : List ℕ → ℕ = λ row. cond (extends joins came row place) (f (with_place place row)) 0 in
    let all : total f (filter (λ row. has_number row place) (partial_matches joins came places (suc number))) ≡ total (λ row. total (λ p. kept (with_place p row)) (filter (extends joins came row) places)) before =
    total-filter f (λ row. has_number row place) (partial_matches joins came places (suc number))
    ∙ total-flat_map kept (λ row. map (λ p. with_place p row) (filter (extends joins came row) places)) before
    ∙ total-same (λ row. total kept (map (λ p. with_place p row) (filter (extends joins came row) places))) (λ row. total (λ p. kept (with_place p row)) (filter (extends joins came row) places))
    (λ row. total-map kept (λ p. with_place p row) (filter (extends joins came row) places)) before in
    let each = total-le (λ row. cond (has_number row place) (with row) (new row)) (λ row. total (λ p. kept (with_place p row)) (filter (extends joins came row) places)) (λ row. by row (has_number row place) refl) before in
    omega (arith, all, each, total-split (λ row. has_number row place) with new before)
  where
    last_is : (row : List ℕ) → has_number (row ++ place ∷ []) place ≡ true
    last_is row = has_number-push row place place ∙ ap (λ b. has_number row place || b) (eq-eqb place place refl) ∙ or_true (has_number row place)
      where
        or_true : (b : Bool) → (b || true) ≡ true
        or_true true = refl
        or_true false = refl

    one : (row : List ℕ) (goes : Bool) → extends joins came row place ≡ goes → cond goes (f (with_place place row)) 0 ≤ total (λ p. cond (has_number (with_place p row) place) (f (with_place p row)) 0) (filter (extends joins came row) places)
    one row true is =
        let there : times (λ p. place == p) (filter (extends joins came row) places) ≡ times (λ p. place == p) places =
        kept-times joins came places row place row (same_self row) ∙ ap (λ b. cond b (times (λ p. place == p) places) 0) is in
        let it : cond (has_number (row ++ place ∷ []) place) (f (row ++ place ∷ [])) 0 ≡ f (row ++ place ∷ []) = ap (λ b. cond b (f (row ++ place ∷ [])) 0) (last_is row) in
        omega (
          arith,
          it,
          total-one (λ a b. a == b) same_place (λ p. cond (has_number (with_place p row) place) (f (with_place p row)) 0) place (filter (extends joins came row) places) (omega (arith, there, has_some places place has)),
        )
    one row false is = omega arith

    by : (row : List ℕ) (had : Bool) → has_number row place ≡ had → cond (has_number row place) (total (λ p. f (with_place p row)) (filter (extends joins came row) places)) (cond (extends joins came row place) (f (with_place place row)) 0) ≤ total (λ p. cond (has_number (with_place p row) place) (f (with_place p row)) 0) (filter (extends joins came row) places)
    by row true is =
        let here : cond (has_number row place) (total (λ p. f (with_place p row)) (filter (extends joins came row) places)) (cond (extends joins came row place) (f (with_place place row)) 0) ≡ total (λ p. f (with_place p row)) (filter (extends joins came row) places) =
        ap (λ b. cond b (total (λ p. f (with_place p row)) (filter (extends joins came row) places)) (cond (extends joins came row place) (f (with_place place row)) 0)) is in
        let same = total-same (λ p. cond (has_number (with_place p row) place) (f (with_place p row)) 0) (λ p. f (with_place p row))
        (λ p. ap (λ b. cond b (f (row ++ p ∷ [])) 0) (has_number-push row p place ∙ ap (λ b. b || (p == place)) is)) (filter (extends joins came row) places) in
        omega (arith, here, same)
    by row false is =
        let here : cond (has_number row place) (total (λ p. f (with_place p row)) (filter (extends joins came row) places)) (cond (extends joins came row place) (f (with_place place row)) 0) ≡ cond (extends joins came row place) (f (with_place place row)) 0 =
        ap (λ b. cond b (total (λ p. f (with_place p row)) (filter (extends joins came row) places)) (cond (extends joins came row place) (f (with_place place row)) 0)) is in
        omega (arith, here, one row (extends joins came row place) refl)

pub made_below : (joins : Joins) (came : List Element) (places : List ℕ) (place : ℕ) (levels : Levels) → has_number places place ≡ true → AreWoven joins came places place [] levels → ((n : ℕ) → AllByRecursion (λ row. length row ≡ n) (levels n)) → (number : ℕ) (f : List ℕ → ℕ) → up_to number (λ at. total f (made joins came places place (levels at) (number - (at + 1)))) ≤ total f (filter (λ row. has_number row place) (partial_matches joins came places number))
made_below joins came places place levels has held widths zero f = omega arith
made_below joins came places place levels has held widths (suc number) f =
    let with : List ℕ → ℕ = λ row. total (λ p. f (with_place p row)) (filter (extends joins came row) places) in
    let new : List ℕ → ℕ = λ row. cond (extends joins came row place) (f (with_place place row)) 0 in
    let before = partial_matches joins came places number in
    let on = up_to-same number (λ at. total f (made joins came places place (levels at) (suc number - (at + 1)))) (λ at. total with (made joins came places place (levels at) (number - (at + 1))))
    (λ at lt. ap (λ k. total f (made joins came places place (levels at) k)) (let more : suc number - (at + 1) ≡ suc (number - (at + 1)) = omega (arith, lt) in more)
    ∙ grown-total joins came places (made joins came places place (levels at) (number - (at + 1))) f) in
    let last : total f (made joins came places place (levels number) (suc number - (number + 1))) ≡ total new (filter (is_other places place) (levels number)) =
    ap (λ k. total f (made joins came places place (levels number) k)) (let none : suc number - (number + 1) ≡ 0 = omega arith in none)
    ∙ joined-total joins came places place (levels number) f in
    let old = level_below joins came places place levels number (filter (λ row. not (has_number row place)) before) held (widths number)
    (λ row long living without matches. let there : times (same_numbers row) (filter (λ r. not (has_number r place)) before) ≡ times (same_numbers row) before =
    kept_times (λ r. not (has_number r place)) row before ∙ ap (λ b. cond (not b) (times (same_numbers row) before) 0) without in
    omega (arith, there, match_among joins came places number row long living matches)) new in
    omega (arith, on, last, old, made_below joins came places place levels has held widths number with, with-total joins came places place number f has)
