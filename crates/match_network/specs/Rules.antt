-- The rules that a network keeps: what their condition elements ask, and the levels.
use Rattle.std.specs.Prelude.{◌≡◌, ℕ, Bool, List, [], ◌∷◌, ◌++◌, ◌==◌, ◌&&◌, true, false, if◌then◌else◌, length, nat_lt, option_and_then, slice_get, slice_index_or, slice_set, Some}
use Rattle.std.specs.List.{AllByRecursion, flat_map, list_any}
use Rattle.std.specs.Option.{option_map_or}
use Rattle.rule_base.specs.declared.element.Element.{Element}
use Rattle.rule_base.specs.declared.program.Rule.{Rule}
use Rattle.join_tests.specs.declared.joins.Join.{Join}
use Rattle.join_tests.specs.declared.joins.Joins.{Joins}
use Rattle.join_tests.specs.Meaning.{IsCompiled}
use Rattle.alpha_memory.specs.Stores.{Serves, Store, admits, has_at, without_entries}
use Rattle.match_network.specs.declared.askers.Asker.{Asker}
use Rattle.match_network.specs.Conditions.{AreCleaned, AreFiled, AreStores, joins_of, rows_of}
use Rattle.match_network.specs.Filed.{LevelRows, passes_at}
use Rattle.match_network.specs.Levels.{AreLevels, AreWoven, OnlyAdds}
use Rattle.alpha_memory.specs.Times.{times}

-- a rule: its joins, the numbers of the stores that serve its positive condition elements and its negated ones, and its
-- levels
pub record RuleRows : Type 0 where
  pub joins : Joins
  pub stores : List ℕ
  pub negated : List ℕ
  pub levels : List LevelRows

-- what is kept of a rule is right for a memory
pub record IsRight (came : List Element) (places : List ℕ) (alpha : List Store) (rule : RuleRows) : Type 0 where
  pub count : length rule.stores ≡ length rule.joins.positives
  pub filed : AreFiled rule.joins.positives came places rule.levels
  pub served : AreStores rule.joins.positives came places rule.stores alpha
  pub right : AreLevels (joins_of rule.joins.positives) came places (rows_of rule.levels)

-- each positive condition element has asked for the store with its number
abbrev pub AreAsked : List Join → List Store → List ℕ → Type 0
AreAsked all alpha numbers =
    (at : ℕ) (join : Join) → slice_get all at ≡ Some join → (number : ℕ) × (slice_get numbers at ≡ Some number) × Serves (without_entries join.pattern join.key (nat_lt 0 at)) alpha number

-- nothing is filed
abbrev pub AreBare : List Store → Type 0
AreBare alpha = AllByRecursion (λ (store : Store). store.entries ≡ []) alpha

-- stores go on to serve whom they served
pub record GoesOn (old : List Store) (new : List Store) : Type 0 where
  pub serves : (wanted : Store) (number : ℕ) → Serves wanted old number → Serves wanted new number

-- the joins of each rule are those that it was compiled to
pub record AreCompiled (rules : List Rule) (kept : List RuleRows) : Type 0 where
  pub count : length kept ≡ length rules
  pub each : (number : ℕ) (rule : Rule) (rows : RuleRows) → slice_get rules number ≡ Some rule → slice_get kept number ≡ Some rows → IsCompiled rule rows.joins

-- one rule more is kept, as it was compiled
pub record IsAdded (rule : Rule) (old : List RuleRows) (new : List RuleRows) : Type 0 where
  pub rows : RuleRows
  pub is : new ≡ old ++ rows ∷ []
  pub compiled : IsCompiled rule rows.joins

-- whether this is the condition element of a rule, by their numbers
abbrev pub is_asker : ℕ → ℕ → Asker → Bool
is_asker rule condition asker = (asker.rule == rule) && (asker.condition == condition)

-- the condition elements that ask the store with a number
abbrev pub askers_at : List (List Asker) → ℕ → List Asker
askers_at askers store = slice_index_or askers store []

-- whether a condition element of a rule asks the store with a number, by the stores of all rules
abbrev pub asks : List (List ℕ) → ℕ → ℕ → ℕ → Bool
asks stores rule condition store = option_map_or (λ number. number == store) (option_and_then (λ numbers. slice_get numbers condition) (slice_get stores rule)) false

-- each condition element is once with the store that it asks, and nowhere else
pub record AreAskers (stores : List (List ℕ)) (askers : List (List Asker)) : Type 0 where
  pub each : (store rule condition : ℕ) → times (is_asker rule condition) (askers_at askers store) ≡ (if asks stores rule condition store then 1 else 0)

-- a condition element of these rules which the element at a place passes
pub record IsDue (came : List Element) (place : ℕ) (rules : List RuleRows) (asker : Asker) : Type 0 where
  pub rule : RuleRows
  pub rule_is : slice_get rules asker.rule ≡ Some rule
  pub join : Join
  pub join_is : slice_get rule.joins.positives asker.condition ≡ Some join
  pub passes : passes_at join came place ≡ true

-- a rule on its way from a memory without a place to one with it, which was woven in at these condition elements
pub record IsWoven (came : List Element) (places : List ℕ) (place : ℕ) (alpha : List Store) (done : List ℕ) (old : RuleRows) (now : RuleRows) : Type 0 where
  pub joins : now.joins ≡ old.joins
  pub stores : now.stores ≡ old.stores
  pub filed : AreFiled now.joins.positives came places now.levels
  pub served : AreStores now.joins.positives came places now.stores alpha
  pub adds : OnlyAdds came place (rows_of old.levels) (rows_of now.levels)
  pub woven : AreWoven (joins_of now.joins.positives) came places place done (rows_of now.levels)

-- a rule after a weave that stopped midway
pub record IsStopped (came : List Element) (places : List ℕ) (place : ℕ) (alpha : List Store) (old : RuleRows) (now : RuleRows) : Type 0 where
  pub joins : now.joins ≡ old.joins
  pub stores : now.stores ≡ old.stores
  pub filed : AreFiled now.joins.positives came places now.levels
  pub served : AreStores now.joins.positives came places now.stores alpha
  pub adds : OnlyAdds came place (rows_of old.levels) (rows_of now.levels)

-- each rule is so, at the condition elements that are done
pub record AreWovenIn (came : List Element) (places : List ℕ) (place : ℕ) (alpha : List Store) (due : List Asker) (old : List RuleRows) (now : List RuleRows) : Type 0 where
  pub count : length now ≡ length old
  pub each : (number : ℕ) (before after : RuleRows) → slice_get old number ≡ Some before → slice_get now number ≡ Some after →
      (done : List ℕ) × ((at : ℕ) → list_any (λ other. other == at) done ≡ list_any (is_asker number at) due) × IsWoven came places place alpha done before after

-- each rule was stopped
pub record AreStopped (came : List Element) (places : List ℕ) (place : ℕ) (alpha : List Store) (old : List RuleRows) (now : List RuleRows) : Type 0 where
  pub count : length now ≡ length old
  pub each : (number : ℕ) (before after : RuleRows) → slice_get old number ≡ Some before → slice_get now number ≡ Some after → IsStopped came places place alpha before after

-- what is filed of a rule is right
pub record IsKept (came : List Element) (places : List ℕ) (alpha : List Store) (rule : RuleRows) : Type 0 where
  pub filed : AreFiled rule.joins.positives came places rule.levels
  pub served : AreStores rule.joins.positives came places rule.stores alpha

-- one rule has got rows with a place, and of the stores some that doesn't live has gone
pub record IsStep (came : List Element) (places : List ℕ) (place : ℕ) (number : ℕ) (alpha : List Store) (more : List Store) (old : List RuleRows) (new : List RuleRows) : Type 0 where
  pub before : RuleRows
  pub before_is : slice_get old number ≡ Some before
  pub after : RuleRows
  pub is : new ≡ slice_set old number after
  pub joins : after.joins ≡ before.joins
  pub stores : after.stores ≡ before.stores
  pub negated : after.negated ≡ before.negated
  pub adds : OnlyAdds came place (rows_of before.levels) (rows_of after.levels)
  pub filed : AreFiled before.joins.positives came places after.levels
  pub cleaned : AreCleaned places alpha more

-- those who ask the stores that an element passes, by one store after another
pub record AreAllDue (e : Element) (alpha : List Store) (askers : List (List Asker)) (due : List Asker) : Type 0 where
  pub passed : List ℕ
  pub once : (number : ℕ) → times (λ other. number == other) passed ≡ (if has_at (admits e) alpha number then 1 else 0)
  pub is : due ≡ flat_map (askers_at askers) passed
