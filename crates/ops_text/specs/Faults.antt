-- Counts of calls and of faults. A count stands still at the last value of its counter, 2^64 - 1.
use Rattle.std.specs.Prelude.{ℕ, ◌+◌, ◌-◌, ◌^◌, ◌<◌, ◌≤◌, ◌⊎◌, Bool, List, nat_lt, if◌then◌else◌, Contains}

-- a count with one more
abbrev pub counted : ℕ → ℕ
counted count = if nat_lt count (2 ^ 64 - 1) then count + 1 else count

-- a count with one more, if there is something to count
abbrev pub counted_if : Bool → ℕ → ℕ
counted_if happened count = if happened then counted count else count

-- the call after so many is among those that are to fail, by their numbers from 1
abbrev pub IsListed : List ℕ → ℕ → Type 0
IsListed failing calls = Contains failing (counted calls)

-- a fault was counted: the count is greater than before, or stands at its last value
abbrev pub Rose : ℕ → ℕ → Type 0
Rose before after = (before < after) ⊎ (2 ^ 64 - 1 ≤ after)
