-- What becomes of full matches as elements come and go.
use Rattle.std.specs.Prelude.{◌≡◌, ◌≢◌, ◌⊎◌, ℕ, ◌<◌, ◌≤◌, List, [], ◌∷◌, ◌++◌, true, Some, length, slice_index_or}
use Rattle.std.specs.List.{AllByRecursion}
use Rattle.rule_base.specs.declared.element.Element.{Element}
use Rattle.rule_base.specs.Numbers.{has_number}
use Rattle.match_network.specs.Arrivals.{Arrivals, has_tag}
use Rattle.match_network.specs.Levels.{HaveCome}
use Rattle.match_network.specs.Network.{Network, joins_in}
use Rattle.match_network.specs.Rules.{RuleRows}
use Rattle.conflict_parts.specs.declared.standing.RowId.{RowId}
use Rattle.conflict_parts.specs.declared.standing.Standing.{Standing}
use Rattle.conflict_parts.specs.declared.standing.Standing.TheVariants.{Waiting}
use Rattle.conflict_parts.specs.Part.{AreNoMore, full_row, full_rows}
use Rattle.conflict_parts.specs.Queue.{IsOpened, has_waiter}
use Rattle.conflict_parts.specs.Standings.{standing_at}

-- all full matches of a rule stand somehow, the dead ones too
abbrev pub IsCovered : List RuleRows → List (List Standing) → ℕ → Type 0
IsCovered rules standings rule = length (full_rows rules rule) ≤ length (slice_index_or standings rule [])

-- some full matches have come to stand, open and in the queue, and no more than there are
pub record HasOpened (rules : List RuleRows) (old : List (List Standing)) (before : List RowId) (new : List (List Standing)) (queue : List RowId) : Type 0 where
  pub opened : IsOpened old before new queue
  pub no_more : AreNoMore rules new
  pub kept : (rule : ℕ) → IsCovered rules old rule → IsCovered rules new rule

-- a network has taken in an element, or has failed to: full rows keep their numbers, and each further one has the
-- element's place
pub record HasGrown (old : Network) (new : Network) (e : Element) : Type 0 where
  pub count : length new.rules ≡ length old.rules
  pub joins : joins_in new.rules ≡ joins_in old.rules
  pub rows : (rule number : ℕ) (row : List ℕ) → full_row new.rules rule number ≡ Some row →
      (full_row old.rules rule number ≡ Some row) ⊎ ((length (full_rows old.rules rule) ≤ number) × (has_number row (length old.arrivals.came) ≡ true))
  pub longer : (rule : ℕ) → length (full_rows old.rules rule) ≤ length (full_rows new.rules rule)
  -- what was there before came
  pub have_come : (rule number : ℕ) (row : List ℕ) → full_row old.rules rule number ≡ Some row → HaveCome old.arrivals.came row
  pub below : AllByRecursion (λ place. place < length old.arrivals.came) old.arrivals.places
  pub came : (new.arrivals.came ≡ old.arrivals.came) ⊎ (new.arrivals.came ≡ old.arrivals.came ++ e ∷ [])

-- nobody waits for an element in working memory with this tag
abbrev pub NoneWaits : Arrivals → ℕ → List (List Standing) → List (ℕ × RowId) → Type 0
NoneWaits arrivals tag standings waiters =
    (rule row place : ℕ) → has_number arrivals.places place ≡ true → has_tag arrivals.came tag place ≡ true → has_waiter waiters place rule row ≡ true → standing_at standings rule row ≢ Some (Waiting place)
