-- Negated condition elements: which stores serve them, and which elements stand in the way of a row.
use Rattle.std.specs.Prelude.{◌≡◌, ℕ, List, Bool, true, false, length, map, slice_get, take, Some}
use Rattle.std.specs.List.{list_all, list_any, sum_by}
use Rattle.rule_base.specs.declared.element.Element.{Element}
use Rattle.rule_base.specs.Numbers.{has_number}
use Rattle.join_tests.specs.declared.joins.Joins.{Joins}
use Rattle.join_tests.specs.declared.joins.Negated.{Negated}
use Rattle.join_tests.specs.Joining.{joins}
use Rattle.join_tests.specs.Meaning.{is_free}
use Rattle.alpha_memory.specs.Stores.{Serves, Store, without_entries}
use Rattle.match_network.specs.Conditions.{IsServed, rows_of}
use Rattle.match_network.specs.Row.{elements_of, some_passes}
use Rattle.match_network.specs.Rules.{RuleRows}
use Rattle.match_network.specs.Tried.{places_tried}

-- each negated condition element has asked for the store with its number, which keeps what passes
abbrev pub AreNegatedAsked : List Negated → List Store → List ℕ → Type 0
AreNegatedAsked all alpha numbers =
    (at : ℕ) (n : Negated) → slice_get all at ≡ Some n → (number : ℕ) × (slice_get numbers at ≡ Some number) × Serves (without_entries n.join.pattern n.join.key true) alpha number

-- each is served by the store with its number
abbrev pub AreNegatedStores : List Negated → List Element → List ℕ → List ℕ → List Store → Type 0
AreNegatedStores all came places numbers alpha =
    (at : ℕ) (n : Negated) → slice_get all at ≡ Some n → (number : ℕ) × (slice_get numbers at ≡ Some number) × IsServed n.join true came places alpha number

-- so are those of a rule
pub record AreNegatedServed (came : List Element) (places : List ℕ) (alpha : List Store) (rule : RuleRows) : Type 0 where
  pub each : AreNegatedStores rule.joins.negated came places rule.negated alpha

-- the numbers of the stores that serve negated condition elements, for all rules
abbrev pub negated_in : List RuleRows → List (List ℕ)
negated_in rules = map (λ (rule : RuleRows). rule.negated) rules

-- the rows for all positive condition elements; with none of these, the row of no places
abbrev pub whole_rows : RuleRows → List (List ℕ)
whole_rows rule = rows_of rule.levels (length rule.levels)

-- the whole row with a number of the rule with a number
pub record IsWholeRow (rules : List RuleRows) (rule : ℕ) (number : ℕ) (kept : RuleRows) (row : List ℕ) : Type 0 where
  pub rule_is : slice_get rules rule ≡ Some kept
  pub row_is : slice_get (whole_rows kept) number ≡ Some row

-- whether the element at a place joins the elements of a row's first places at a negated condition element
abbrev pub blocks_at : Negated → List Element → List ℕ → ℕ → Bool
blocks_at n came row place = some_passes (joins n.join (take n.after (elements_of came row))) (slice_get came place)

-- whether the element at a place stands in the way of a row, at one of the negated condition elements
abbrev pub blocks : Joins → List Element → List ℕ → ℕ → Bool
blocks all came row place = list_any (λ (n : Negated). blocks_at n came row place) all.negated

-- how many elements in working memory a row is tried with, at all of these negated condition elements
abbrev pub blockers_tried : List Negated → List Element → List ℕ → List ℕ → ℕ
blockers_tried all came places row = sum_by (λ (n : Negated). places_tried n.join came places (take n.after row)) all

-- a row isn't free where an element in working memory stands in its way
abbrev pub BlockedIsNotFree : Type 0
BlockedIsNotFree =
    (all : Joins) (came : List Element) (places row : List ℕ) (place : ℕ) →
    has_number places place ≡ true → blocks all came row place ≡ true →
    list_all (is_free (elements_of came places) (elements_of came row)) all.negated ≡ false
