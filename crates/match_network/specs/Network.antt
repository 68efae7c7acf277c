-- The network: the elements, and what is kept of each rule.
use Rattle.std.specs.Prelude.{◌≡◌, ℕ, ◌<◌, ◌==◌, Bool, List, not, length, map, slice_get, Some}
use Rattle.std.specs.List.{AllByRecursion}
use Rattle.rule_base.specs.declared.element.Element.{Element}
use Rattle.rule_base.specs.Memory.{Rises}
use Rattle.join_tests.specs.declared.joins.Joins.{Joins}
use Rattle.alpha_memory.specs.Stores.{Store}
use Rattle.match_network.specs.declared.askers.Asker.{Asker}
use Rattle.match_network.specs.Arrivals.{Arrivals, with_arrival}
use Rattle.match_network.specs.Conditions.{joins_of, rows_of}
use Rattle.match_network.specs.Levels.{AreLevels}
use Rattle.match_network.specs.Negated.{AreNegatedServed, negated_in}
use Rattle.match_network.specs.Rules.{AreAskers, IsRight, RuleRows}

-- the elements that came, those in working memory, the rules, and the condition elements that the last element passed,
-- positive ones and negated ones
pub record Network : Type 0 where
  pub arrivals : Arrivals
  pub rules : List RuleRows
  pub due : List Asker
  pub negated_due : List Asker
  -- a count of the rows and links, the dead ones too, which is never too low, and what it was after the last packing
  pub held : ℕ
  pub left : ℕ

-- what is kept of all rules is right, and each condition element is noted where it asks, positive or negated
pub record IsNetwork (came : List Element) (places : List ℕ) (alpha : List Store) (rules : List RuleRows) (askers : List (List Asker)) (negated_askers : List (List Asker)) : Type 0 where
  pub right : AllByRecursion (IsRight came places alpha) rules
  pub askers_are : AreAskers (map (λ (rule : RuleRows). rule.stores) rules) askers
  pub negated_served : AllByRecursion (AreNegatedServed came places alpha) rules
  pub negated_askers_are : AreAskers (negated_in rules) negated_askers

-- the levels of each rule are those of the memory
abbrev pub AreAllRight : Network → Type 0
AreAllRight network =
    (number : ℕ) (kept : RuleRows) → slice_get network.rules number ≡ Some kept → AreLevels (joins_of kept.joins.positives) network.arrivals.came network.arrivals.places (rows_of kept.levels)

-- each rule has a level for each of its positive condition elements
abbrev pub AllHaveLevels : Network → Type 0
AllHaveLevels network = (number : ℕ) (kept : RuleRows) → slice_get network.rules number ≡ Some kept → length kept.levels ≡ length kept.joins.positives

-- the joins of all rules
abbrev pub joins_in : List RuleRows → List Joins
joins_in rules = map (λ (rule : RuleRows). rule.joins) rules

-- an element came to this place, and what is kept is right for the memory before it
pub record IsBefore (now : Arrivals) (e : Element) (place : ℕ) (alpha : List Store) (rules : List RuleRows) (askers : List (List Asker)) (negated_askers : List (List Asker)) : Type 0 where
  pub before : Arrivals
  pub is : now ≡ with_arrival before e
  pub place_is : place ≡ length before.came
  pub below : AllByRecursion (λ p. p < length before.came) before.places
  pub rising : Rises now.places
  pub now_below : AllByRecursion (λ p. p < length now.came) now.places
  pub held : IsNetwork before.came before.places alpha rules askers negated_askers

-- whether a place is another one
abbrev pub other_than : ℕ → ℕ → Bool
other_than place p = not (p == place)
