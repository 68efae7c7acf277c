-- What packing leaves: of each level the rows that are of elements in working memory.
use Rattle.std.specs.Prelude.{◌≡◌, ◌⊎◌, ℕ, List, Some, filter, length, slice_get, slice_set}
use Rattle.rule_base.specs.declared.element.Element.{Element}
use Rattle.match_network.specs.Conditions.{AreFiled, rows_of}
use Rattle.match_network.specs.Row.{is_living}
use Rattle.match_network.specs.Rules.{RuleRows}
use Rattle.match_network.specs.Woven.{Levels}

-- the dead rows of all levels are gone, and no others
abbrev pub IsPacked : List ℕ → Levels → Levels → Type 0
IsPacked places old new = (width : ℕ) → new width ≡ filter (is_living places) (old width)

-- the dead rows of some levels are gone, and no others
abbrev pub IsPartlyPacked : List ℕ → Levels → Levels → Type 0
IsPartlyPacked places old new = (width : ℕ) → (new width ≡ old width) ⊎ (new width ≡ filter (is_living places) (old width))

-- the dead rows of all rules are gone
pub record ArePacked (places : List ℕ) (old : List RuleRows) (new : List RuleRows) : Type 0 where
  pub count : length new ≡ length old
  pub each : (number : ℕ) (before after : RuleRows) → slice_get old number ≡ Some before → slice_get new number ≡ Some after → IsPacked places (rows_of before.levels) (rows_of after.levels)

-- of each rule the dead rows of some levels may be gone
pub record MayBePacked (places : List ℕ) (old : List RuleRows) (new : List RuleRows) : Type 0 where
  pub count : length new ≡ length old
  pub each : (number : ℕ) (before after : RuleRows) → slice_get old number ≡ Some before → slice_get new number ≡ Some after → IsPartlyPacked places (rows_of before.levels) (rows_of after.levels)

-- a rule keeps its joins and stores, its levels are right, and their dead rows may be gone
pub record IsRepacked (came : List Element) (places : List ℕ) (old : RuleRows) (new : RuleRows) : Type 0 where
  pub joins : new.joins ≡ old.joins
  pub stores : new.stores ≡ old.stores
  pub negated : new.negated ≡ old.negated
  pub filed : AreFiled new.joins.positives came places new.levels
  pub rows : IsPartlyPacked places (rows_of old.levels) (rows_of new.levels)

-- so it is with each rule
pub record AreRepacked (came : List Element) (places : List ℕ) (old : List RuleRows) (new : List RuleRows) : Type 0 where
  pub count : length new ≡ length old
  pub each : (number : ℕ) (before after : RuleRows) → slice_get old number ≡ Some before → slice_get new number ≡ Some after → IsRepacked came places before after

-- one rule was packed, or some of its levels were
pub record IsRepackedAt (came : List Element) (places : List ℕ) (number : ℕ) (old : List RuleRows) (new : List RuleRows) : Type 0 where
  pub before : RuleRows
  pub before_is : slice_get old number ≡ Some before
  pub after : RuleRows
  pub is : new ≡ slice_set old number after
  pub repacked : IsRepacked came places before after
