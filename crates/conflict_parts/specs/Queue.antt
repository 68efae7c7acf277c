-- The queue of full matches that are to be looked at.
use Rattle.std.specs.Prelude.{◌≡◌, ◌⊎◌, ℕ, ◌==◌, ◌&&◌, List, Bool, true, false, Some, length}
use Rattle.std.specs.List.{list_any}
use Rattle.conflict_parts.specs.declared.standing.RowId.{RowId}
use Rattle.conflict_parts.specs.declared.standing.Standing.{Standing}
use Rattle.conflict_parts.specs.declared.standing.Standing.TheVariants.{Open}
use Rattle.conflict_parts.specs.Standings.{is_marked, standing_at}
use Rattle.conflict_parts.specs.Waiters.{waiters_at}

-- whether a full match is this one, by the number of its rule and its own
abbrev pub same_row : ℕ → ℕ → RowId → Bool
same_row rule row id = (id.rule == rule) && (id.row == row)

-- whether a full match is in the queue
abbrev pub is_queued : List RowId → ℕ → ℕ → Bool
is_queued queue rule row = list_any (same_row rule row) queue

-- whether a full match came to wait at a place
abbrev pub has_waiter : List (ℕ × RowId) → ℕ → ℕ → ℕ → Bool
has_waiter waiters place rule row = list_any (same_row rule row) (waiters_at waiters place)

-- a full match that wasn't marked stands open, and is in the queue
pub record IsNowOpen (old : List (List Standing)) (new : List (List Standing)) (queue : List RowId) (rule : ℕ) (row : ℕ) : Type 0 where
  pub unmarked : is_marked old rule row ≡ false
  pub stands : standing_at new rule row ≡ Some Open
  pub queued : is_queued queue rule row ≡ true

-- each full match stands as before, or now open; and whoever was in the queue is
pub record IsOpened (old : List (List Standing)) (before : List RowId) (new : List (List Standing)) (queue : List RowId) : Type 0 where
  pub count : length new ≡ length old
  pub each : (rule row : ℕ) → (standing_at new rule row ≡ standing_at old rule row) ⊎ IsNowOpen old new queue rule row
  pub queued : (rule row : ℕ) → is_queued before rule row ≡ true → is_queued queue rule row ≡ true
