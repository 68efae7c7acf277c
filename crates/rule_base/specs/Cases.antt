-- Tables: rows of cells.
use Rattle.std.specs.Prelude.{ℕ, List, [], get_or, slice_index}

-- the cell in a row and a column, which both count from 0; past the table it counts as 0
abbrev pub cell : List (List ℕ) → ℕ → ℕ → ℕ
cell rows row column = slice_index (get_or rows row []) column
