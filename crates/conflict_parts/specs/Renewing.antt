-- What comes of marks as an element comes.
use Rattle.std.specs.Prelude.{◌≡◌, ◌⊎◌, ℕ, ◌&&◌, ◌++◌, List, [], true, drop, length, not, slice_index_or, Some}
use Rattle.std.specs.List.{list_any}
use Rattle.rule_base.specs.declared.base.Refraction.{Refraction}
use Rattle.match_network.specs.Network.{Network}
use Rattle.match_network.specs.Touched.{is_of}
use Rattle.conflict_parts.specs.declared.standing.RowId.{RowId}
use Rattle.conflict_parts.specs.declared.standing.Standing.{Standing}
use Rattle.conflict_parts.specs.declared.standing.Standing.TheVariants.{Open}
use Rattle.conflict_parts.specs.Change.{HasOpened, IsCovered}
use Rattle.conflict_parts.specs.Marks.{blocks_row, ends}
use Rattle.conflict_parts.specs.Part.{IsLivingRow, full_row}
use Rattle.conflict_parts.specs.Queue.{is_queued}
use Rattle.conflict_parts.specs.Standings.{is_marked, standing_at}

-- a negated condition element of each rule was due that has a row in whose way the element at a place stands
abbrev pub AreDue : Network → ℕ → Type 0
AreDue network place = (rule : ℕ) (row : List ℕ) → blocks_row network rule row place ≡ true → list_any (is_of rule) network.negated_due ≡ true

-- those that came into the queue behind others
abbrev pub behind : List RowId → List RowId → List RowId
behind before queue = drop (length before) queue

-- full matches came into the queue, and the element at a place stands in the way of each
pub record AreNoted (network : Network) (place : ℕ) (before : List RowId) (queue : List RowId) : Type 0 where
  pub is : queue ≡ before ++ behind before queue
  pub stands : (rule number : ℕ) (row : List ℕ) → is_queued (behind before queue) rule number ≡ true → full_row network.rules rule number ≡ Some row → blocks_row network rule row place ≡ true

-- among them are those of a rule that live and are marked, if the element stands in their way
abbrev pub AllAreNoted : Network → ℕ → List (List Standing) → ℕ → List RowId → List RowId → Type 0
AllAreNoted network place standings rule before queue =
    (number : ℕ) (row : List ℕ) → IsLivingRow network rule number row → is_marked standings rule number ≡ true → blocks_row network rule row place ≡ true → is_queued (behind before queue) rule number ≡ true

-- marks have ended, and their full matches stand open and are in the queue
pub record IsRenewed (refraction : Refraction) (network : Network) (place : ℕ) (old : List (List Standing)) (before : List RowId) (new : List (List Standing)) (queue : List RowId) : Type 0 where
  pub count : length new ≡ length old
  pub lengths : (rule : ℕ) → length (slice_index_or new rule []) ≡ length (slice_index_or old rule [])
  pub queued : (rule number : ℕ) → is_queued before rule number ≡ true → is_queued queue rule number ≡ true
  pub each : (rule number : ℕ) → (standing_at new rule number ≡ standing_at old rule number) ⊎ ((standing_at new rule number ≡ Some Open) × (is_queued queue rule number ≡ true))
  pub marks : (rule number : ℕ) (row : List ℕ) → IsLivingRow network rule number row → is_marked new rule number ≡ (is_marked old rule number && not (ends refraction network rule row place))

-- the full matches of the rules that were due have come to stand, and then marks have ended
pub record IsSettled (refraction : Refraction) (network : Network) (place : ℕ) (old : List (List Standing)) (before : List RowId) (new : List (List Standing)) (queue : List RowId) : Type 0 where
  pub standings : List (List Standing)
  pub among : List RowId
  pub opened : HasOpened network.rules old before standings among
  pub all : (rule : ℕ) → list_any (is_of rule) network.due ≡ true → IsCovered network.rules standings rule
  pub renewed : IsRenewed refraction network place standings among new queue
