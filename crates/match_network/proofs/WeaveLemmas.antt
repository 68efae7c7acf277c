-- What a weave makes, counted: each living match that has the place first where it was woven in, once.
use Rattle.std.proofs.Common.{◌≡◌, ℕ, ◌+◌, ◌<◌, ◌==◌, List, [], ◌∷◌, ◌++◌, Bool, true, false, not, cond, ◌&&◌, length, map, zero, suc, refl, ap, sym, ◌∙◌, arith, subst, length-append}
use Rattle.std.specs.List.{filter}
use Rattle.std.proofs.lemmas.Bool.{and_parts, eqb-true}
use Rattle.rule_base.specs.declared.element.Element.{Element}
use Rattle.rule_base.specs.Memory.{Rises}
use Rattle.rule_base.specs.Numbers.{has_number, same_numbers}
use Rattle.match_network.specs.Row.{Joins, extends, is_first, is_living, is_match}
use Rattle.alpha_memory.specs.Times.{times}
use Rattle.match_network.specs.Woven.{grown, joined, made, offered, with_place}
use Rattle.match_network.proofs.RowLemmas.{is_first-before, is_first-last, is_living-push, is_match-push, last_of, same_numbers-push, same_row}
use Rattle.alpha_memory.proofs.TimesLemmas.{Rises-times, times-agree, times-and, times-filter, times-flat_map, times-map, times-reverse}

-- 1 where it holds
abbrev one : Bool → ℕ
one b = cond b 1 0

-- a test that only some rows pass may be asked of the row that is looked for
pinned_step : (same asked : Bool) (b : Bool) (keep kept : Bool) → (same ≡ true → keep ≡ kept) → ((same && b) && keep) ≡ (same && (b && kept))
pinned_step true asked true keep kept is = is refl
pinned_step true asked false keep kept is = refl
pinned_step false asked b keep kept is = refl

-- how often a filter leaves a row that goes on by a place
pub times-pinned : (row : List ℕ) (b : Bool) (keep : List ℕ → Bool) (rows : List (List ℕ)) → times (λ other. same_numbers row other && b) (filter keep rows) ≡ cond (b && keep row) (times (same_numbers row) rows) 0
times-pinned row b keep rows =
    times-filter (λ other. same_numbers row other && b) keep rows
    ∙ times-agree (λ other. (same_numbers row other && b) && keep other) (λ other. same_numbers row other && (b && keep row)) (λ other. pinned_step (same_numbers row other) true b (keep other) (keep row) (λ same. ap keep (sym (same_row row other same)))) rows
    ∙ times-and (same_numbers row) (b && keep row) rows

begun_step : (b without goes goes_too match : Bool) (n : ℕ) → (without ≡ true → n ≡ cond match 1 0) → (b ≡ true → goes ≡ goes_too) → cond (b && ((true && without) && goes_too)) n 0 ≡ cond ((match && goes) && (without && b)) 1 0
begun_step true true true true true n is same = is refl
begun_step true true false false true n is same = refl
begun_step true true true true false n is same = is refl
begun_step true true false false false n is same = refl
begun_step true true true false match n is same = absurd (let wrong : ⊥ = cc (same refl) in wrong)
begun_step true true false true match n is same = absurd (let wrong : ⊥ = cc (same refl) in wrong)
begun_step true false goes goes_too true n is same = elim goes as (λ g. one false ≡ one ((true && g) && (false && true))) [ true ↦ refl | false ↦ refl ]
begun_step true false goes goes_too false n is same = refl
begun_step false without goes goes_too match n is same = sym (ap one (and_last (match && goes) without))
  where
    and_last : (a b : Bool) → (a && (b && false)) ≡ false
    and_last true true = refl
    and_last true false = refl
    and_last false b = refl

-- the rows that end in the place
pub begun-times : (joins : Joins) (came : List Element) (places : List ℕ) (place at : ℕ) (rows : List (List ℕ)) (row : List ℕ) (last : ℕ) → length row ≡ at → is_living places row ≡ true → (not (has_number row place) ≡ true → times (same_numbers row) rows ≡ cond (is_match joins came row) 1 0) → times (same_numbers (row ++ last ∷ [])) (map (with_place place) (joined joins came places place rows)) ≡ cond (is_match joins came (row ++ last ∷ []) && is_first place at (row ++ last ∷ [])) 1 0
begun-times joins came places place at rows row last long living once =
    let keep : List ℕ → Bool = λ other. (is_living places other && not (has_number other place)) && extends joins came other place in
    let ends : Bool = last == place in
    let counted : times (same_numbers (row ++ last ∷ [])) (map (with_place place) (joined joins came places place rows)) ≡ cond (ends && keep row) (times (same_numbers row) rows) 0 =
    times-map (same_numbers (row ++ last ∷ [])) (with_place place) (joined joins came places place rows)
    ∙ times-agree (λ other. same_numbers (row ++ last ∷ []) (other ++ place ∷ [])) (λ other. same_numbers row other && ends) (λ other. same_numbers-push row other last place) (joined joins came places place rows)
    ∙ times-reverse (λ other. same_numbers row other && ends) (filter keep rows)
    ∙ times-pinned row ends keep rows in
    counted
    ∙ ap (λ b. cond (ends && ((b && not (has_number row place)) && extends joins came row place)) (times (same_numbers row) rows) 0) living
    ∙ begun_step ends (not (has_number row place)) (extends joins came row last) (extends joins came row place) (is_match joins came row) (times (same_numbers row) rows) once (λ is. ap (extends joins came row) (eqb-true last place is))
    ∙ sym (ap (λ b. cond (b && is_first place at (row ++ last ∷ [])) 1 0) (is_match-push joins came row last) ∙ ap (λ b. cond ((is_match joins came row && extends joins came row last) && b) 1 0) (is_first-last place at last row long))

-- how often a row is among those that go on from another by each place that is offered
offered_step : (same goes : Bool) (n once : ℕ) → (same ≡ true → n ≡ cond goes once 0) → (same ≡ false → n ≡ 0) → once ≡ 1 → n ≡ cond same (cond goes 1 0) 0
offered_step true true n once is none one = is refl ∙ one
offered_step true false n once is none one = is refl
offered_step false goes n once is none one = none refl

times-false : (xs : List ℕ) → times (λ x. false) xs ≡ 0
times-false [] = refl
times-false (x ∷ xs) = let rest : 0 + times (λ x. false) xs ≡ 0 = omega (arith, times-false xs) in rest

kept_step : (same : Bool) (last place : ℕ) (goes kept : Bool) → (last == place) ≡ same → (last ≡ place → goes ≡ kept) → ((last == place) && goes) ≡ ((last == place) && kept)
kept_step true last place goes kept is agree = ap (λ b. (last == place) && b) (agree (eqb-true last place is))
kept_step false last place goes kept is agree = ap (λ b. b && goes) is ∙ sym (ap (λ b. b && kept) is)

pub kept-times : (joins : Joins) (came : List Element) (places row : List ℕ) (last : ℕ) (other : List ℕ) → same_numbers row other ≡ true → times (λ p. last == p) (filter (extends joins came other) places) ≡ cond (extends joins came row last) (times (λ p. last == p) places) 0
kept-times joins came places row last other same =
    times-filter (λ p. last == p) (extends joins came other) places
    ∙ times-agree (λ p. (last == p) && extends joins came other p) (λ p. (last == p) && extends joins came row last)
    (λ p. kept_step (last == p) last p (extends joins came other p) (extends joins came row last) refl (λ is. ap (λ r. extends joins came r p) (sym (same_row row other same)) ∙ ap (extends joins came row) (sym is))) places
    ∙ times-and (λ p. last == p) (extends joins came row last) places

going-times : (joins : Joins) (came : List Element) (places row : List ℕ) (last : ℕ) → times (λ p. last == p) places ≡ 1 → (other : List ℕ) → times (same_numbers (row ++ last ∷ [])) (map (λ p. with_place p other) (offered joins came places other)) ≡ cond (same_numbers row other) (cond (extends joins came row last) 1 0) 0
going-times joins came places row last once other =
    let asked : (same : Bool) → same_numbers row other ≡ same → times (same_numbers (row ++ last ∷ [])) (map (λ p. with_place p other) (offered joins came places other)) ≡ times (λ p. same && (last == p)) (offered joins came places other) =
    λ (same : Bool) (is : same_numbers row other ≡ same). times-map (same_numbers (row ++ last ∷ [])) (λ p. with_place p other) (offered joins came places other)
    ∙ times-agree (λ p. same_numbers (row ++ last ∷ []) (other ++ p ∷ [])) (λ p. same && (last == p)) (λ p. same_numbers-push row other last p ∙ ap (λ b. b && (last == p)) is) (offered joins came places other) in
    offered_step (same_numbers row other) (extends joins came row last) (times (same_numbers (row ++ last ∷ [])) (map (λ p. with_place p other) (offered joins came places other))) (times (λ p. last == p) places)
    (λ same. asked true same ∙ times-reverse (λ p. last == p) (filter (extends joins came other) places) ∙ kept-times joins came places row last other same)
    (λ differs. asked false differs ∙ times-false (offered joins came places other))
    once

grown_step : (goes match first : Bool) → cond goes (cond (match && first) 1 0) 0 ≡ one ((match && goes) && first)
grown_step true true first = refl
grown_step true false first = refl
grown_step false true first = refl
grown_step false false first = refl

pub grown-times : (joins : Joins) (came : List Element) (places : List ℕ) (place at : ℕ) (rows : List (List ℕ)) (row : List ℕ) (last : ℕ) → at < length row → times (λ p. last == p) places ≡ 1 → times (same_numbers row) rows ≡ cond (is_match joins came row && is_first place at row) 1 0 → times (same_numbers (row ++ last ∷ [])) (grown joins came places rows) ≡ cond (is_match joins came (row ++ last ∷ []) && is_first place at (row ++ last ∷ [])) 1 0
grown-times joins came places place at rows row last long offered_once once =
    times-flat_map (same_numbers (row ++ last ∷ [])) (same_numbers row) (extends joins came row last) (λ other. map (λ p. with_place p other) (offered joins came places other)) (going-times joins came places row last offered_once) rows
    ∙ ap (λ n. cond (extends joins came row last) n 0) once
    ∙ grown_step (extends joins came row last) (is_match joins came row) (is_first place at row)
    ∙ sym (ap (λ b. cond (b && is_first place at (row ++ last ∷ [])) 1 0) (is_match-push joins came row last) ∙ ap (λ b. cond ((is_match joins came row && extends joins came row last) && b) 1 0) (is_first-before place at last row long))

-- the rows that a place makes, so many levels on
living_parts : (places row : List ℕ) (last : ℕ) → is_living places (row ++ last ∷ []) ≡ true → (is_living places row ≡ true) × (has_number places last ≡ true)
living_parts places row last living = and_parts (is_living places row) (has_number places last) (sym (is_living-push places row last) ∙ living)

pub record IsOnce (joins : Joins) (came : List Element) (places : List ℕ) (place at : ℕ) (rows : List (List ℕ)) : Type 0 where
  pub once : (row : List ℕ) → length row ≡ at → is_living places row ≡ true → not (has_number row place) ≡ true → times (same_numbers row) rows ≡ cond (is_match joins came row) 1 0

pub made-times : (joins : Joins) (came : List Element) (places : List ℕ) (place at : ℕ) (rows : List (List ℕ)) → Rises places → IsOnce joins came places place at rows → (further : ℕ) (row : List ℕ) → length row ≡ at + further + 1 → is_living places row ≡ true → times (same_numbers row) (made joins came places place rows further) ≡ cond (is_match joins came row && is_first place at row) 1 0
made-times joins came places place at rows rises held zero row long living =
    let parts = last_of row (omega (arith, long)) in
    let init = parts.0 in
    let last = parts.1 in
    let is : row ≡ init ++ last ∷ [] = parts.2 in
    let alive = living_parts places init last (ap (is_living places) (sym is) ∙ living) in
    let short : length init ≡ at = omega (arith, long, ap length is, length-append init (last ∷ [])) in
    let there : times (same_numbers (init ++ last ∷ [])) (made joins came places place rows zero) ≡ cond (is_match joins came (init ++ last ∷ []) && is_first place at (init ++ last ∷ [])) 1 0 =
    begun-times joins came places place at rows init last short alive.0 (held.once init short alive.0) in
    subst (λ r. times (same_numbers r) (made joins came places place rows zero) ≡ cond (is_match joins came r && is_first place at r) 1 0) (sym is) there
made-times joins came places place at rows rises held (suc further) row long living =
    let parts = last_of row (omega (arith, long)) in
    let init = parts.0 in
    let last = parts.1 in
    let is : row ≡ init ++ last ∷ [] = parts.2 in
    let alive = living_parts places init last (ap (is_living places) (sym is) ∙ living) in
    let short : length init ≡ at + further + 1 = omega (arith, long, ap length is, length-append init (last ∷ [])) in
    let there : times (same_numbers (init ++ last ∷ [])) (made joins came places place rows (suc further)) ≡ cond (is_match joins came (init ++ last ∷ []) && is_first place at (init ++ last ∷ [])) 1 0 =
    grown-times joins came places place at (made joins came places place rows further) init last (omega (arith, short)) (Rises-times last places rises alive.1)
    (made-times joins came places place at rows rises held further init short alive.0) in
    subst (λ r. times (same_numbers r) (made joins came places place rows (suc further)) ≡ cond (is_match joins came r && is_first place at r) 1 0) (sym is) there
