-- The levels of a rule, one for each of its positive condition elements.
use Rattle.std.specs.Prelude.{◌≡◌, ℕ, ◌+◌, ◌-◌, ◌<◌, ◌==◌, ◌++◌, List, [], ◌∷◌, Bool, true, false, drop, length, nat_lt, option_map, slice_get, slice_index_or, slice_set, suc, zero, Some}
use Rattle.std.specs.List.{AllByRecursion}
use Rattle.std.specs.Option.{option_map_or}
use Rattle.rule_base.specs.declared.element.Element.{Element}
use Rattle.join_tests.specs.declared.joins.Join.{Join}
use Rattle.join_tests.specs.Joining.{joins}
use Rattle.alpha_memory.specs.Stores.{Serves, Store, emptied, without_entries}
use Rattle.match_network.specs.Filed.{IsFiled, IsStore, LevelRows}
use Rattle.match_network.specs.Joining.{IsCleaned}
use Rattle.match_network.specs.Levels.{HaveCome}
use Rattle.match_network.specs.Row.{Joins}
use Rattle.match_network.specs.Woven.{Levels}

-- whether an element joins those before it, by the joins of all positive condition elements
abbrev pub joins_of : List Join → Joins
joins_of all number es e = option_map_or (λ join. joins join es e) (slice_get all number) false

-- the level with a number, from 0
abbrev pub level_at : List LevelRows → ℕ → LevelRows
level_at levels number = slice_index_or levels number (record { width = 0; rows = []; entries = [] })

-- the rows by the number of their places: that of no places is always there, and each level has the next
abbrev pub rows_of : List LevelRows → Levels
rows_of levels zero = [] ∷ []
rows_of levels (suc number) = (level_at levels number).rows

-- a level is that of the condition element with this number, from 0: its rows have a place for each up to it, are of
-- elements that came, and are filed for the condition elements that follow
pub record IsLevelOf (all : List Join) (came : List Element) (places : List ℕ) (number : ℕ) (level : LevelRows) : Type 0 where
  pub width : level.width ≡ number + 1
  pub widths : AllByRecursion (λ row. length row ≡ number + 1) level.rows
  pub have_come : AllByRecursion (HaveCome came) level.rows
  pub filed : IsFiled (drop (number + 1) all) came places level

-- there is a level for each condition element
pub record AreFiled (all : List Join) (came : List Element) (places : List ℕ) (levels : List LevelRows) : Type 0 where
  pub count : length levels ≡ length all
  pub each : (number : ℕ) → number < length levels → IsLevelOf all came places number (level_at levels number)

-- what is filed in the store with a number
abbrev pub entries_at : List Store → ℕ → List (ℕ × ℕ)
entries_at stores number = option_map_or (λ (store : Store). store.entries) (slice_get stores number) []

-- the store with a number asks for what a join asks of an element alone, and has the elements that pass, if it keeps any
pub record IsServed (join : Join) (kept : Bool) (came : List Element) (places : List ℕ) (stores : List Store) (number : ℕ) : Type 0 where
  pub serves : Serves (without_entries join.pattern join.key kept) stores number
  pub has : kept ≡ true → IsStore join came places (entries_at stores number)

-- each condition element is served by the store with its number; no row looks for the elements of the first one
abbrev pub AreStores : List Join → List Element → List ℕ → List ℕ → List Store → Type 0
AreStores all came places numbers stores =
    (at : ℕ) (join : Join) → slice_get all at ≡ Some join → (number : ℕ) × (slice_get numbers at ≡ Some number) × IsServed join (nat_lt 0 at) came places stores number

-- stores ask for what they did, and of each some that doesn't live has gone
pub record AreCleaned (places : List ℕ) (old : List Store) (new : List Store) : Type 0 where
  pub asks : (number : ℕ) → option_map emptied (slice_get new number) ≡ option_map emptied (slice_get old number)
  pub each : (number : ℕ) → IsCleaned places (entries_at old number) (entries_at new number)

-- a level has become another, and in the one before it what is filed was cleaned
pub record IsBegun (all : List Join) (came : List Element) (places : List ℕ) (number : ℕ) (old : List LevelRows) (new : List LevelRows) (after : LevelRows) : Type 0 where
  pub before : LevelRows
  pub width : before.width ≡ (level_at old (number - 1)).width
  pub rows : before.rows ≡ (level_at old (number - 1)).rows
  pub filed : IsFiled all came places before
  pub is : new ≡ slice_set (slice_set old (number - 1) before) number after

-- the rows of one width have become more, and no others
pub record IsGiven (width : ℕ) (old : Levels) (new : Levels) (rows : List (List ℕ)) : Type 0 where
  pub given : new width ≡ old width ++ rows
  pub others : (other : ℕ) → (other == width) ≡ false → new other ≡ old other

-- the rows of one width have become more by the first of these
abbrev pub IsGivenPart : ℕ → Levels → Levels → List (List ℕ) → Type 0
IsGivenPart width old new rows = (some : List (List ℕ)) × (rest : List (List ℕ)) × (rows ≡ some ++ rest) × IsGiven width old new some
