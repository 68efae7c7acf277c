-- How many pairs are tried along a bucket: just those that agree in the key.
use Rattle.std.proofs.Common.{◌≡◌, ℕ, ◌+◌, ◌-◌, ◌<◌, ◌≤◌, ◌==◌, List, ◌∷◌, Bool, true, false, not, ◌&&◌, drop, map, reverse, zero, suc, arith, refl, ap, sym, ◌∙◌, Option, None, Some, slice_get}
use Rattle.std.specs.List.{filter}
use Rattle.std.specs.Option.{option_map_or}
use Rattle.rule_base.specs.declared.element.Element.{Element}
use Rattle.rule_base.specs.Numbers.{has_number}
use Rattle.hash_buckets.specs.Buckets.{numbers_of, stays}
use Rattle.join_tests.specs.declared.joins.Join.{Join}
use Rattle.join_tests.specs.Hashing.{hash_of}
use Rattle.join_tests.specs.Joining.{key_of_element, same_key}
use Rattle.match_network.specs.Filed.{IsFiled, IsStore, LevelRows, hash_at, passes_at, row_at, row_hash, row_lives}
use Rattle.match_network.specs.Conditions.{joins_of}
use Rattle.match_network.specs.Woven.{made}
use Rattle.match_network.specs.Row.{elements_of, is_living, some_passes}
use Rattle.alpha_memory.specs.Times.{times}
use Rattle.match_network.specs.Tried.{at_number, has_key, pairs_tried, places_tried, rows_tried, tries, woven_tried}
use Rattle.match_network.proofs.FiledLemmas.{found_level, found_store, map-reverse, same_hash, turned}
use Rattle.match_network.proofs.SoFarLemmas.{drop_from}
use Rattle.alpha_memory.proofs.TimesLemmas.{times-agree, times-filter, times-reverse}

row_step : (without key living hit : Bool) → (key ≡ true → hit ≡ true) → ((without && key) && (living && hit)) ≡ (living && (without && key))
row_step true true true hit is = is refl
row_step true true false hit is = refl
row_step true false true hit is = refl
row_step true false false hit is = refl
row_step false key true hit is = refl
row_step false key false hit is = refl

key_hits : (join : Join) (came : List Element) (row : List ℕ) (found : Option Element) → some_passes (same_key join.key (elements_of came row)) found ≡ true → (row_hash join came row == option_map_or (λ e. hash_of (key_of_element join.key e)) found 0) ≡ true
key_hits join came row None has = absurd (let wrong : ⊥ = cc in wrong)
key_hits join came row (Some e) has = same_hash join.key (elements_of came row) e has

pub rows_tried_in : (join : Join) (next : List Join) (came : List Element) (places : List ℕ) (place hash : ℕ) (level new : LevelRows) → IsFiled (join ∷ next) came places level → hash ≡ hash_at join came place → new.rows ≡ level.rows → new.entries ≡ filter (stays hash (row_lives places level.rows)) level.entries → times (tries join came place) (map (row_at new.rows) (reverse (numbers_of new.entries hash))) ≡ rows_tried join came places place level.rows
rows_tried_in join next came places place hash level new held is rows entries =
    let asked = tries join came place in
    let at = hash_at join came place in
    let mid : List ℕ → Bool = λ row. is_living places row && (row_hash join came row == at) in
    ap (λ rs. times asked (map (row_at rs) (reverse (numbers_of new.entries hash)))) rows
    ∙ ap (λ es. times asked (map (row_at level.rows) (reverse (numbers_of es hash)))) entries
    ∙ ap (λ h. times asked (map (row_at level.rows) (reverse (numbers_of (filter (stays h (row_lives places level.rows)) level.entries) h)))) is
    ∙ ap (times asked) (map-reverse (row_at level.rows) (numbers_of (filter (stays at (row_lives places level.rows)) level.entries) at))
    ∙ times-reverse asked (map (row_at level.rows) (numbers_of (filter (stays at (row_lives places level.rows)) level.entries) at))
    ∙ ap (times asked) (found_level join next came places at level held)
    ∙ times-filter asked mid level.rows
    ∙ times-agree (λ row. asked row && mid row) (λ row. is_living places row && asked row)
    (λ row. row_step (not (has_number row place)) (has_key join came row place) (is_living places row) (row_hash join came row == at) (key_hits join came row (slice_get came place))) level.rows

place_step : (key hit passed : Bool) → (key ≡ true → hit ≡ true) → (key && (hit && passed)) ≡ (passed && key)
place_step true true true is = refl
place_step true true false is = refl
place_step true false passed is = absurd (let wrong : ⊥ = cc (is refl) in wrong)
place_step false hit true is = refl
place_step false hit false is = refl

pub places_tried_in : (join : Join) (came : List Element) (places row : List ℕ) (hash : ℕ) (old new : List (ℕ × ℕ)) → IsStore join came places old → hash ≡ row_hash join came row → new ≡ filter (stays hash (has_number places)) old → times (has_key join came row) (reverse (numbers_of new hash)) ≡ places_tried join came places row
places_tried_in join came places row hash old new held is entries =
    let asked = has_key join came row in
    let at = row_hash join came row in
    let hit : ℕ → Bool = λ p. hash_at join came p == at in
    let mid : ℕ → Bool = λ p. hit p && passes_at join came p in
    ap (λ es. times asked (reverse (numbers_of es hash))) entries
    ∙ ap (λ h. times asked (reverse (numbers_of (filter (stays h (has_number places)) old) h))) is
    ∙ times-reverse asked (numbers_of (filter (stays at (has_number places)) old) at)
    ∙ ap (times asked) (found_store join came places at old held)
    ∙ times-filter asked mid places
    ∙ times-agree (λ p. asked p && mid p) (λ p. passes_at join came p && asked p)
    (λ p. place_step (asked p) (hit p) (passes_at join came p) (λ has. turned (row_hash join came row) (hash_at join came p) (key_hits join came row (slice_get came p) has))) places

pub pairs_tried-from : (join : Join) (came : List Element) (places : List ℕ) (rows : List (List ℕ)) (number : ℕ) (row : List ℕ) → slice_get rows number ≡ Some row → pairs_tried join came places (drop number rows) ≡ places_tried join came places row + pairs_tried join came places (drop (number + 1) rows)
pairs_tried-from join came places rows number row at = ap (pairs_tried join came places) (drop_from rows number row at)

-- a count at a condition element that is there
pub at_number-is : (all : List Join) (number : ℕ) (join : Join) (count : Join → ℕ) → slice_get all number ≡ Some join → count join ≡ at_number all number count
at_number-is all number join count there = ap (λ o. option_map_or count o 0) (sym there)

-- one level more
pub tried_more : (all : List Join) (came : List Element) (places : List ℕ) (place at : ℕ) (rows last : List (List ℕ)) (number : ℕ) → at < number → last ≡ made (joins_of all) came places place rows (number - (at + 1)) → woven_tried all came places place at rows (number + 1 - (at + 1)) ≡ woven_tried all came places place at rows (number - (at + 1)) + at_number all number (λ join. pairs_tried join came places last)
tried_more all came places place at rows last number past is =
    ap (woven_tried all came places place at rows) (let more : number + 1 - (at + 1) ≡ suc (number - (at + 1)) = omega (arith, past) in more)
    ∙ ap (λ n. woven_tried all came places place at rows (number - (at + 1)) + at_number all n (λ join. pairs_tried join came places (made (joins_of all) came places place rows (number - (at + 1))))) (let same : at + (number - (at + 1)) + 1 ≡ number = omega (arith, past) in same)
    ∙ ap (λ rs. woven_tried all came places place at rows (number - (at + 1)) + at_number all number (λ join. pairs_tried join came places rs)) (sym is)

tried_on : (all : List Join) (came : List Element) (places : List ℕ) (place at : ℕ) (rows : List (List ℕ)) (further more : ℕ) → woven_tried all came places place at rows further ≤ woven_tried all came places place at rows (further + more)
tried_on all came places place at rows further zero = omega (arith, ap (woven_tried all came places place at rows) (let same : further ≡ further + 0 = omega arith in same))
tried_on all came places place at rows further (suc more) =
    let next : woven_tried all came places place at rows (further + suc more) ≡ woven_tried all came places place at rows (suc (further + more)) = ap (woven_tried all came places place at rows) (let same : further + suc more ≡ suc (further + more) = omega arith in same) in
    omega (arith, next, tried_on all came places place at rows further more)

pub tried_within : (all : List Join) (came : List Element) (places : List ℕ) (place at : ℕ) (rows : List (List ℕ)) (further most : ℕ) → further ≤ most → woven_tried all came places place at rows further ≤ woven_tried all came places place at rows most
tried_within all came places place at rows further most le =
    omega (arith, tried_on all came places place at rows further (most - further), ap (woven_tried all came places place at rows) (let same : further + (most - further) ≡ most = omega (arith, le) in same))
