-- How much is held: the rows of all levels, and the places that are filed in all stores.
use Rattle.std.specs.Prelude.{ℕ, ◌+◌, ◌-◌, ◌<◌, ◌≤◌, ◌^◌, List, length}
use Rattle.std.specs.List.{sum_by}
use Rattle.alpha_memory.specs.Stores.{Store, places_filed}
use Rattle.match_network.specs.Filed.{LevelRows}
use Rattle.match_network.specs.Rules.{RuleRows}

-- how many rows the levels of a rule have
abbrev pub rows_filed : List LevelRows → ℕ
rows_filed levels = sum_by (λ (level : LevelRows). length level.rows) levels

-- how many rows all rules have
abbrev pub all_rows : List RuleRows → ℕ
all_rows rules = sum_by (λ (rule : RuleRows). rows_filed rule.levels) rules

-- a count is no less than what it counts, unless it stands at the largest number of 64 bits
abbrev pub Covers : ℕ → ℕ → Type 0
Covers count total = count < 2 ^ 64 - 1 → total ≤ count

-- a count covers the rows of all rules and the places in all stores
abbrev pub RowsHeld : ℕ → List RuleRows → List Store → Type 0
RowsHeld count rules alpha = Covers count (all_rows rules + places_filed alpha)
