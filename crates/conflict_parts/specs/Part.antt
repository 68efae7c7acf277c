-- Which full matches of a network are candidates, and what is kept of them.
use Rattle.std.specs.Prelude.{◌≡◌, ℕ, ◌<◌, ◌≤◌, List, [], Bool, true, Option, Some, length, slice_get, slice_index_or}
use Rattle.std.specs.List.{list_all}
use Rattle.std.specs.Option.{option_map_or}
use Rattle.rule_base.specs.declared.base.Refraction.{Refraction}
use Rattle.rule_base.specs.Numbers.{has_number}
use Rattle.join_tests.specs.Meaning.{is_free}
use Rattle.match_network.specs.Negated.{blocks, whole_rows}
use Rattle.match_network.specs.Network.{Network}
use Rattle.match_network.specs.Row.{elements_of, is_living}
use Rattle.match_network.specs.Rules.{RuleRows}
use Rattle.conflict_parts.specs.declared.standing.RowId.{RowId}
use Rattle.conflict_parts.specs.declared.standing.Standing.{Standing}
use Rattle.conflict_parts.specs.declared.standing.Standing.TheVariants.{Open, Waiting}
use Rattle.conflict_parts.specs.Queue.{has_waiter, is_queued}
use Rattle.conflict_parts.specs.Standings.{standing_at}

-- a network, how its full matches stand, and when a mark ends
pub record Part : Type 0 where
  pub network : Network
  pub standings : List (List Standing)
  pub refraction : Refraction

-- the full rows of the rule with a number
abbrev pub full_rows : List RuleRows → ℕ → List (List ℕ)
full_rows rules rule = option_map_or whole_rows (slice_get rules rule) []

-- the full row with a number of its own
abbrev pub full_row : List RuleRows → ℕ → ℕ → Option (List ℕ)
full_row rules rule number = slice_get (full_rows rules rule) number

-- this is a full match of elements in working memory
pub record IsLivingRow (network : Network) (rule : ℕ) (number : ℕ) (row : List ℕ) : Type 0 where
  pub is : full_row network.rules rule number ≡ Some row
  pub lives : is_living network.arrivals.places row ≡ true

-- whether no element of working memory joins a row at one of the rule's negated condition elements
abbrev pub is_free_row : Network → ℕ → List ℕ → Bool
is_free_row network rule row =
    option_map_or (λ (kept : RuleRows). list_all (is_free (elements_of network.arrivals.came network.arrivals.places) (elements_of network.arrivals.came row)) kept.joins.negated) (slice_get network.rules rule) true

-- the element at a place in working memory stands in the way of a row
pub record IsBlockedAt (network : Network) (rule : ℕ) (row : List ℕ) (place : ℕ) : Type 0 where
  pub there : has_number network.arrivals.places place ≡ true
  pub stands : (kept : RuleRows) → slice_get network.rules rule ≡ Some kept → blocks kept.joins network.arrivals.came row place ≡ true

-- no more full matches stand than there are
abbrev pub AreNoMore : List RuleRows → List (List Standing) → Type 0
AreNoMore rules standings = (rule : ℕ) → length (slice_index_or standings rule []) ≤ length (full_rows rules rule)

-- what is kept of the full matches goes with the network: nothing is said of those that are dead
pub record IsPart (network : Network) (standings : List (List Standing)) (queue : List RowId) (waiters : List (ℕ × RowId)) : Type 0 where
  pub count : length standings ≡ length network.rules
  pub no_more : AreNoMore network.rules standings
  -- each that lives stands somehow
  pub covered : (rule number : ℕ) (row : List ℕ) → IsLivingRow network rule number row → number < length (slice_index_or standings rule [])
  -- where it stands open it is in the queue
  pub opened : (rule number : ℕ) (row : List ℕ) → IsLivingRow network rule number row → standing_at standings rule number ≡ Some Open → is_queued queue rule number ≡ true
  -- and where it waits, what it waits for stands in its way, and will wake it
  pub blocked : (rule number : ℕ) (row : List ℕ) (place : ℕ) → IsLivingRow network rule number row → standing_at standings rule number ≡ Some (Waiting place) → IsBlockedAt network rule row place
  pub noted : (rule number : ℕ) (row : List ℕ) (place : ℕ) → IsLivingRow network rule number row → standing_at standings rule number ≡ Some (Waiting place) → has_waiter waiters place rule number ≡ true

-- a living full match that stands open, and is free
pub record IsCandidate (network : Network) (standings : List (List Standing)) (id : RowId) : Type 0 where
  pub row : List ℕ
  pub lives : IsLivingRow network id.rule id.row row
  pub stands : standing_at standings id.rule id.row ≡ Some Open
  pub free : is_free_row network id.rule row ≡ true
