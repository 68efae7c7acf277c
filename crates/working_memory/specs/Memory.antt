-- Which places are in working memory.
use Rattle.std.specs.Prelude.{◌≡◌, ℕ, ◌<◌, Bool, false, true, List, filter, length, slice_index_or}
use Rattle.std.specs.List.{AllByRecursion}
use Rattle.rule_base.specs.Memory.{Rises}
use Rattle.rule_base.specs.Numbers.{has_number}

-- the places in working memory in order, how many elements ever came, how many slots hold the places, and how many more elements
-- it takes in without memory
pub record Places : Type 0 where
  pub places : List ℕ
  pub came : ℕ
  pub slots : ℕ
  pub spare : ℕ

-- whether the element at a place is in working memory, by the flags of all that came
abbrev pub is_here : List Bool → ℕ → Bool
is_here here place = slice_index_or here place false

-- slots hold all places that are in working memory by these flags, each once and in order, and so many of them are there
pub record IsKept (slots : List ℕ) (here : List Bool) (count : ℕ) : Type 0 where
  pub rising : Rises slots
  pub below : AllByRecursion (λ p. p < length here) slots
  pub held : (place : ℕ) → is_here here place ≡ true → has_number slots place ≡ true
  pub living : count ≡ length (filter (is_here here) slots)
