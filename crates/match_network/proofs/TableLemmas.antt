-- Rows in one list of places: each lies where its number says, and one more lies behind the others.
use Rattle.std.proofs.Common.{◌≡◌, ℕ, ◌+◌, ◌*◌, ◌<◌, ◌≤◌, List, [], ◌∷◌, ◌++◌, drop, length, take, Some, slice_get, zero, suc, refl, ap, sym, ◌∙◌, arith, length-drop}
use Rattle.std.specs.List.{AllByRecursion}
use Rattle.std.proofs.Math.Nat.{suc-mul}
use Rattle.std.proofs.lemmas.Nat.{row_fits}
use Rattle.std.proofs.lemmas.List.{drop-append-le, drop-drop, drop-take, take-take, length-take-le, nil_from_length, take-append-le, take_all}
use Rattle.match_network.specs.RowTable.{rows_in}

-- one row more
left_full : (width count : ℕ) (places : List ℕ) → length places ≡ suc count * width → length (drop width places) ≡ count * width
left_full width count places full = omega (arith, length-drop width places, full, suc-mul count width)

long_enough : (width count : ℕ) (places : List ℕ) → length places ≡ suc count * width → width ≤ length places
long_enough width count places full = omega (arith, full, suc-mul count width)

pub rows_in-push : (width count : ℕ) (places row : List ℕ) → length places ≡ count * width → length row ≡ width → rows_in width (places ++ row) (suc count) ≡ rows_in width places count ++ row ∷ []
rows_in-push width zero places row full long =
    let none : places ≡ [] = nil_from_length places (omega (arith, full)) in
    ap (λ ps. take width (ps ++ row) ∷ []) none ∙ ap (λ r. r ∷ []) (take_all width row (omega (arith, long)))
rows_in-push width (suc count) places row full long =
    let enough = long_enough width count places full in
    ap (λ r. r ∷ rows_in width (drop width (places ++ row)) (suc count)) (take-append-le width places row enough)
    ∙ ap (λ ps. take width places ∷ rows_in width ps (suc count)) (drop-append-le width places row enough)
    ∙ ap (λ rows. take width places ∷ rows) (rows_in-push width count (drop width places) row (left_full width count places full) long)

pub length-rows_in : (width count : ℕ) (places : List ℕ) → length (rows_in width places count) ≡ count
length-rows_in width zero places = refl
length-rows_in width (suc count) places = ap (λ n. suc n) (length-rows_in width count (drop width places))

pub rows_in-widths : (width count : ℕ) (places : List ℕ) → length places ≡ count * width → AllByRecursion (λ row. length row ≡ width) (rows_in width places count)
rows_in-widths width zero places full = tt
rows_in-widths width (suc count) places full =
    (length-take-le width places (long_enough width count places full), rows_in-widths width count (drop width places) (left_full width count places full))

-- the row with a number
pub rows_in-at : (width count : ℕ) (places : List ℕ) (row : ℕ) → row < count → slice_get (rows_in width places count) row ≡ Some (take width (drop (row * width) places))
rows_in-at width zero places row lt = absurd (omega (arith, lt))
rows_in-at width (suc count) places zero lt = ap (λ n. Some (take width (drop n places))) (let none : 0 ≡ 0 * width = omega arith in none)
rows_in-at width (suc count) places (suc row) lt =
    rows_in-at width count (drop width places) row (omega (arith, lt))
    ∙ ap (λ ps. Some (take width ps)) (drop-drop (row * width) width places)
    ∙ ap (λ n. Some (take width (drop n places))) (let same : width + row * width ≡ suc row * width = omega (arith, suc-mul row width) in same)

pub row_within : (width count : ℕ) (places : List ℕ) (row : ℕ) → length places ≡ count * width → row < length (rows_in width places count) → row * width + width ≤ length places
row_within width count places row full lt = omega (arith, full, row_fits row width count width (omega (arith, lt, length-rows_in width count places)) (omega arith))

-- the same, of what the arrays have become
pub rows_in-pushed : (width count : ℕ) (places row now : List ℕ) → length places ≡ count * width → length row ≡ width → now ≡ places ++ row → rows_in width now (count + 1) ≡ rows_in width places count ++ row ∷ []
rows_in-pushed width count places row now full long is =
    ap (rows_in width now) (let same : count + 1 ≡ suc count = omega arith in same) ∙ ap (λ ps. rows_in width ps (suc count)) is ∙ rows_in-push width count places row full long

-- one row less
take_rows : (width count : ℕ) (places : List ℕ) → take count (rows_in width places (suc count)) ≡ rows_in width places count
take_rows width zero places = refl
take_rows width (suc count) places = ap (λ rows. take width places ∷ rows) (take_rows width count (drop width places))

rows_in-take : (width count more : ℕ) (places : List ℕ) → rows_in width (take (count * width + more) places) count ≡ rows_in width places count
rows_in-take width zero more places = refl
rows_in-take width (suc count) more places =
    let n : suc count * width + more ≡ width + (count * width + more) = omega (arith, suc-mul count width) in
    ap (λ m. rows_in width (take m places) (suc count)) n
    ∙ ap (λ r. r ∷ rows_in width (drop width (take (width + (count * width + more)) places)) count) (take-take width (width + (count * width + more)) places (omega arith))
    ∙ ap (λ ps. take width places ∷ rows_in width ps count) (drop-take width (count * width + more) places)
    ∙ ap (λ rows. take width places ∷ rows) (rows_in-take width count more (drop width places))

pub rows_in-pop : (width count : ℕ) (places : List ℕ) → rows_in width (take (count * width) places) count ≡ take count (rows_in width places (suc count))
rows_in-pop width count places =
    ap (λ n. rows_in width (take n places) count) (let same : count * width ≡ count * width + 0 = omega arith in same) ∙ rows_in-take width count 0 places ∙ sym (take_rows width count places)
