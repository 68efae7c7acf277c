-- Rows and elements filed under the hashes of the keys by which they are looked for.
use Rattle.std.specs.Prelude.{◌≡◌, ℕ, ◌+◌, ◌<◌, List, [], ◌∷◌, ◌++◌, Bool, filter, length, map, slice_get, slice_index_or}
use Rattle.std.specs.List.{AllByRecursion}
use Rattle.std.specs.Option.{option_map_or}
use Rattle.rule_base.specs.declared.element.Element.{Element}
use Rattle.rule_base.specs.Numbers.{has_number}
use Rattle.join_tests.specs.declared.joins.Join.{Join}
use Rattle.join_tests.specs.Joining.{joins, key_of_element, key_of_row, passes}
use Rattle.join_tests.specs.Hashing.{hash_of}
use Rattle.match_network.specs.Row.{Joins, elements_of, is_living, some_passes}

-- a level: how many places its rows have, the rows, and the hashes and numbers under which they are filed
pub record LevelRows : Type 0 where
  pub width : ℕ
  pub rows : List (List ℕ)
  pub entries : List (ℕ × ℕ)

-- the joins of one condition element alone
abbrev pub only : Join → Joins
only join number es e = joins join es e

-- the hash of what the element at a place brings to the join's key
abbrev pub hash_at : Join → List Element → ℕ → ℕ
hash_at join came place = option_map_or (λ e. hash_of (key_of_element join.key e)) (slice_get came place) 0

-- the hash of what a row asks for in the join's key
abbrev pub row_hash : Join → List Element → List ℕ → ℕ
row_hash join came row = hash_of (key_of_row join.key (elements_of came row))

-- rows under their hashes, numbered from this one on
abbrev pub filed_rows : Join → List Element → ℕ → List (List ℕ) → List (ℕ × ℕ)
filed_rows join came number [] = []
filed_rows join came number (row ∷ rows) = (row_hash join came row, number) ∷ filed_rows join came (number + 1) rows

-- the same for the first of the condition elements that follow, if there is one
abbrev pub filed : List Join → List Element → ℕ → List (List ℕ) → List (ℕ × ℕ)
filed [] came number rows = []
filed (join ∷ rest) came number rows = filed_rows join came number rows

-- a level with more rows, filed for the condition elements that follow
abbrev pub with_rows : List Join → List Element → LevelRows → List (List ℕ) → LevelRows
with_rows next came level rows =
    record level { rows = level.rows ++ rows; entries = level.entries ++ filed next came (length level.rows) rows }

-- a level with those of its rows alone that are of elements in working memory, filed anew
abbrev pub packed : List Join → List Element → List ℕ → LevelRows → LevelRows
packed next came places level =
    with_rows next came (record { width = level.width; rows = []; entries = [] }) (filter (is_living places) level.rows)

-- the row with a number
abbrev pub row_at : List (List ℕ) → ℕ → List ℕ
row_at rows number = slice_index_or rows number []

-- the entries whose numbers live
abbrev pub living_entries : (ℕ → Bool) → List (ℕ × ℕ) → List (ℕ × ℕ)
living_entries lives entries = filter (λ e. lives e.1) entries

-- whether the row with a number is of elements in working memory
abbrev pub row_lives : List ℕ → List (List ℕ) → ℕ → Bool
row_lives places rows number = is_living places (row_at rows number)

-- of the rows that live, just these are filed, each under its hash and in order; and what is filed are rows
pub record IsFiled (next : List Join) (came : List Element) (places : List ℕ) (level : LevelRows) : Type 0 where
  pub living : living_entries (row_lives places level.rows) level.entries ≡ living_entries (row_lives places level.rows) (filed next came 0 level.rows)
  pub numbered : AllByRecursion (λ (e : ℕ × ℕ). e.1 < length level.rows) level.entries

-- whether the element at a place passes what the join asks of it alone
abbrev pub passes_at : Join → List Element → ℕ → Bool
passes_at join came place = some_passes (passes join.pattern) (slice_get came place)

-- of these places, those whose elements pass, under the hashes of what they bring to the join's key
abbrev pub store_entries : Join → List Element → List ℕ → List (ℕ × ℕ)
store_entries join came places = map (λ p. (hash_at join came p, p)) (filter (passes_at join came) places)

-- of the elements that live, just those that pass are filed, each under its hash and in order; and what is filed came
pub record IsStore (join : Join) (came : List Element) (places : List ℕ) (entries : List (ℕ × ℕ)) : Type 0 where
  pub living : living_entries (has_number places) entries ≡ store_entries join came places
  pub have_come : AllByRecursion (λ (e : ℕ × ℕ). e.1 < length came) entries
