-- A level while rows are added: a few more, and all of them.
use Rattle.std.proofs.Common.{◌≡◌, ℕ, ◌+◌, ◌≤◌, ◌==◌, List, [], ◌∷◌, ◌++◌, Bool, true, false, cond, drop, length, map, reverse, zero, suc, refl, ap, sym, ◌∙◌, arith, append_assoc, length-append, Some, slice_get}
use Rattle.std.specs.List.{AllByRecursion, filter}
use Rattle.std.proofs.lemmas.List.{append-nil, drop_all}
use Rattle.std.proofs.lemmas.List.Concat.{flat_map-cons}
use Rattle.rule_base.specs.declared.element.Element.{Element}
use Rattle.rule_base.proofs.EachLemmas.{Each-filter, Each-map}
use Rattle.hash_buckets.specs.Buckets.{numbers_of}
use Rattle.match_network.proofs.ComeLemmas.{Each-reverse}
use Rattle.join_tests.specs.declared.joins.Join.{Join}
use Rattle.match_network.specs.Filed.{LevelRows, filed, filed_rows, row_at, row_hash, with_rows}
use Rattle.match_network.specs.Joining.{agrees_at, extended, taken, takes}
use Rattle.match_network.specs.SoFar.{IsSoFar}
use Rattle.match_network.specs.Woven.{grown, offered, with_place}
use Rattle.match_network.specs.Row.{Joins}

pub filed_rows-append : (join : Join) (came : List Element) (number : ℕ) (xs ys : List (List ℕ)) → filed_rows join came number (xs ++ ys) ≡ filed_rows join came number xs ++ filed_rows join came (number + length xs) ys
filed_rows-append join came number [] ys = ap (λ n. filed_rows join came n ys) (let same : number ≡ number + 0 = omega arith in same)
filed_rows-append join came number (x ∷ xs) ys =
    ap (λ es. (row_hash join came x, number) ∷ es) (filed_rows-append join came (number + 1) xs ys)
    ∙ ap (λ n. filed_rows join came number (x ∷ xs) ++ filed_rows join came n ys) (let same : (number + 1) + length xs ≡ number + length (x ∷ xs) = omega arith in same)

pub filed-append : (next : List Join) (came : List Element) (number : ℕ) (xs ys : List (List ℕ)) → filed next came number (xs ++ ys) ≡ filed next came number xs ++ filed next came (number + length xs) ys
filed-append [] came number xs ys = refl
filed-append (join ∷ rest) came number xs ys = filed_rows-append join came number xs ys

filed-none : (next : List Join) (came : List Element) (number : ℕ) → filed next came number [] ≡ []
filed-none [] came number = refl
filed-none (join ∷ rest) came number = refl

abbrev the_level : ℕ → List (List ℕ) → List (ℕ × ℕ) → LevelRows
the_level width rows entries = record { width = width; rows = rows; entries = entries }

pub with_rows-none : (next : List Join) (came : List Element) (level : LevelRows) → with_rows next came level [] ≡ level
with_rows-none next came level =
    ap (λ rows. the_level level.width rows (level.entries ++ filed next came (length level.rows) [])) (append-nil level.rows)
    ∙ ap (λ es. the_level level.width level.rows (level.entries ++ es)) (filed-none next came (length level.rows))
    ∙ ap (the_level level.width level.rows) (append-nil level.entries)

pub with_rows-append : (next : List Join) (came : List Element) (level : LevelRows) (xs ys : List (List ℕ)) → with_rows next came (with_rows next came level xs) ys ≡ with_rows next came level (xs ++ ys)
with_rows-append next came level xs ys =
    ap (λ rows. the_level level.width rows ((level.entries ++ filed next came (length level.rows) xs) ++ filed next came (length (level.rows ++ xs)) ys)) (append_assoc level.rows xs ys)
    ∙ ap (λ n. the_level level.width (level.rows ++ (xs ++ ys)) ((level.entries ++ filed next came (length level.rows) xs) ++ filed next came n ys)) (length-append level.rows xs)
    ∙ ap (the_level level.width (level.rows ++ (xs ++ ys))) (append_assoc level.entries (filed next came (length level.rows) xs) (filed next came (length level.rows + length xs) ys))
    ∙ ap (λ es. the_level level.width (level.rows ++ (xs ++ ys)) (level.entries ++ es)) (sym (filed-append next came (length level.rows) xs ys))

-- nothing was added yet
pub so_far_none : (next : List Join) (came : List Element) (level : LevelRows) (rows : List (List ℕ)) → IsSoFar next came level level rows rows
so_far_none next came level rows = record { some = []; split = refl; is = sym (with_rows-none next came level) }

-- some of what was left was added
pub so_far_more : (next : List Join) (came : List Element) (old now new : LevelRows) (rows first left rest : List (List ℕ)) → IsSoFar next came old now rows (first ++ left) → IsSoFar next came now new first rest → IsSoFar next came old new rows (rest ++ left)
so_far_more next came old now new rows first left rest before more = record {
  some = before.some ++ more.some;
  split = before.split ∙ ap (λ xs. before.some ++ (xs ++ left)) more.split ∙ ap (λ xs. before.some ++ xs) (append_assoc more.some rest left) ∙ sym (append_assoc before.some more.some (rest ++ left));
  is = more.is ∙ ap (λ level. with_rows next came level more.some) before.is ∙ with_rows-append next came old before.some more.some;
}

-- all of the first of what was left was added
pub so_far_next : (next : List Join) (came : List Element) (old now new : LevelRows) (rows first left : List (List ℕ)) → IsSoFar next came old now rows (first ++ left) → new ≡ with_rows next came now first → IsSoFar next came old new rows left
so_far_next next came old now new rows first left before is =
    so_far_more next came old now new rows first left [] before (record { some = first; split = sym (append-nil first); is = is })

-- nothing is left
pub so_far_all : (next : List Join) (came : List Element) (old new : LevelRows) (rows : List (List ℕ)) → IsSoFar next came old new rows [] → new ≡ with_rows next came old rows
so_far_all next came old new rows all = all.is ∙ ap (with_rows next came old) (sym (all.split ∙ append-nil all.some))

-- the rows of one number, and of those after it
pub row_at-is : (rows : List (List ℕ)) (number : ℕ) (row : List ℕ) → slice_get rows number ≡ Some row → row_at rows number ≡ row
row_at-is [] number row at = absurd (let wrong : ⊥ = cc in wrong)
row_at-is (r ∷ rows) zero row at = let same : r ≡ row = cc in same
row_at-is (r ∷ rows) (suc number) row at = row_at-is rows number row at

one_kept : {X Y : Type 0} (f : X → Y) (b : Bool) (x : X) (rest : List X) → map f (cond b (x ∷ rest) rest) ≡ map f (cond b (x ∷ []) []) ++ map f rest
one_kept f true x rest = refl
one_kept f false x rest = refl

pub taken-cons : (join : Join) (came : List Element) (place : ℕ) (rows : List (List ℕ)) (number : ℕ) (numbers : List ℕ) → taken join came place rows (number ∷ numbers) ≡ taken join came place rows (number ∷ []) ++ taken join came place rows numbers
taken-cons join came place rows number numbers =
    one_kept (with_place place) (takes join came place (row_at rows number)) (row_at rows number) (filter (takes join came place) (map (row_at rows) numbers))

pub extended-cons : (join : Join) (came : List Element) (row : List ℕ) (place : ℕ) (places : List ℕ) → extended join came row (place ∷ places) ≡ extended join came row (place ∷ []) ++ extended join came row places
extended-cons join came row place places =
    one_kept (λ p. with_place p row) (agrees_at join came row place) place (filter (agrees_at join came row) places)

pub taken_one : (join : Join) (came : List Element) (place : ℕ) (rows : List (List ℕ)) (number : ℕ) (row : List ℕ) (b : Bool) → slice_get rows number ≡ Some row → takes join came place row ≡ b → taken join came place rows (number ∷ []) ≡ cond b ((row ++ place ∷ []) ∷ []) []
taken_one join came place rows number row b at is =
    ap (λ r. map (with_place place) (cond (takes join came place r) (r ∷ []) [])) (row_at-is rows number row at)
    ∙ ap (λ t. map (with_place place) (cond t (row ∷ []) [])) is ∙ one_way b
  where
    one_way : (t : Bool) → map (with_place place) (cond t (row ∷ []) []) ≡ cond t ((row ++ place ∷ []) ∷ []) []
    one_way true = refl
    one_way false = refl

-- what is filed under a hash has the property that all that is filed has
pub Each-bucket : (P : ℕ → Type 0) (entries : List (ℕ × ℕ)) (hash : ℕ) → AllByRecursion (λ (e : ℕ × ℕ). P e.1) entries → AllByRecursion P (reverse (numbers_of entries hash))
Each-bucket P entries hash each =
    Each-reverse P (numbers_of entries hash)
    (Each-map P (λ (e : ℕ × ℕ). e.1) (filter (λ (e : ℕ × ℕ). e.0 == hash) entries) (Each-filter (λ (e : ℕ × ℕ). P e.1) (λ (e : ℕ × ℕ). e.0 == hash) entries each))

-- the rows from a number on are its row and those after it
pub drop_from : {X : Type 0} (xs : List X) (i : ℕ) (x : X) → slice_get xs i ≡ Some x → drop i xs ≡ x ∷ drop (i + 1) xs
drop_from [] i x at = absurd (let wrong : ⊥ = cc in wrong)
drop_from (y ∷ xs) zero x at = let same : y ≡ x = cc in ap (λ z. z ∷ xs) same ∙ ap (λ k. x ∷ drop k (y ∷ xs)) (let one : suc 0 ≡ 0 + 1 = omega arith in one)
drop_from (y ∷ xs) (suc i) x at = drop_from xs i x at ∙ ap (λ k. x ∷ drop k (y ∷ xs)) (let one : suc (i + 1) ≡ suc i + 1 = omega arith in one)

pub grown-from : (joins : Joins) (came : List Element) (places : List ℕ) (rows : List (List ℕ)) (number : ℕ) (row : List ℕ) → slice_get rows number ≡ Some row → grown joins came places (drop number rows) ≡ map (λ p. with_place p row) (offered joins came places row) ++ grown joins came places (drop (number + 1) rows)
grown-from joins came places rows number row at =
    ap (grown joins came places) (drop_from rows number row at)
    ∙ flat_map-cons (λ r. map (λ p. with_place p r) (offered joins came places r)) row (drop (number + 1) rows)

pub grown-end : (joins : Joins) (came : List Element) (places : List ℕ) (rows : List (List ℕ)) (number : ℕ) → length rows ≤ number → grown joins came places (drop number rows) ≡ []
grown-end joins came places rows number past = ap (grown joins came places) (drop_all number rows past)

-- what a filter leaves from a number on
filter_first : {X : Type 0} (test : X → Bool) (x : X) (xs : List X) → filter test (x ∷ xs) ≡ filter test (x ∷ []) ++ filter test xs
filter_first test x xs = step (test x)
  where
    step : (b : Bool) → cond b (x ∷ filter test xs) (filter test xs) ≡ cond b (x ∷ []) [] ++ filter test xs
    step true = refl
    step false = refl

pub filter-from : {X : Type 0} (test : X → Bool) (xs : List X) (i : ℕ) (x : X) → slice_get xs i ≡ Some x → filter test (drop i xs) ≡ filter test (x ∷ []) ++ filter test (drop (i + 1) xs)
filter-from test xs i x at = ap (filter test) (drop_from xs i x at) ∙ filter_first test x (drop (i + 1) xs)

pub filter-end : {X : Type 0} (test : X → Bool) (xs : List X) (i : ℕ) → length xs ≤ i → filter test (drop i xs) ≡ []
filter-end test xs i past = ap (filter test) (drop_all i xs past)
