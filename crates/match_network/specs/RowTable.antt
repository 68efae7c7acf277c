-- Rows of one width, as callers see them, and where they lie in one list of places.
use Rattle.std.specs.Prelude.{◌≡◌, ℕ, ◌*◌, ◌<◌, ◌^◌, List, [], ◌∷◌, ◌++◌, drop, length, suc, take, zero}

-- how many places each row has, and the rows
pub record RowTable : Type 0 where
  pub width : ℕ
  pub rows : List (List ℕ)

-- the table with one more row at its end
abbrev pub with_row : RowTable → List ℕ → RowTable
with_row table row = record table { rows = table.rows ++ row ∷ [] }

-- the rows of a width that lie one after another in a list of places, so many of them
abbrev pub rows_in : ℕ → List ℕ → ℕ → List (List ℕ)
rows_in width places zero = []
rows_in width places (suc count) = take width places ∷ rows_in width (drop width places) count

-- so many rows fill the list, and each has a number of 32 bits
pub record AreRows (width : ℕ) (places : List ℕ) (count : ℕ) : Type 0 where
  pub full : length places ≡ count * width
  pub few : count < 2 ^ 32
