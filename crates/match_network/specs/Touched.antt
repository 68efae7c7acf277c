-- What an element that came has touched: the condition elements that were due, what their rules got, and the rules that stayed.
use Rattle.std.specs.Prelude.{◌≡◌, ℕ, ◌==◌, List, Bool, true, false, slice_get, Some}
use Rattle.std.specs.List.{list_any}
use Rattle.rule_base.specs.declared.element.Element.{Element}
use Rattle.join_tests.specs.declared.joins.Negated.{Negated}
use Rattle.join_tests.specs.Joining.{passes}
use Rattle.alpha_memory.specs.Stores.{Store}
use Rattle.match_network.specs.declared.askers.Asker.{Asker}
use Rattle.match_network.specs.Conditions.{AreCleaned, rows_of}
use Rattle.match_network.specs.Levels.{OnlyAdds}
use Rattle.match_network.specs.Negated.{negated_in}
use Rattle.match_network.specs.Rules.{RuleRows, is_asker}

-- whether this is a condition element of the rule with a number
abbrev pub is_of : ℕ → Asker → Bool
is_of rule asker = asker.rule == rule

-- rules of which no condition element was due are as before
abbrev pub OthersStay : List Asker → List RuleRows → List RuleRows → Type 0
OthersStay due old new = (number : ℕ) → list_any (is_of number) due ≡ false → slice_get new number ≡ slice_get old number

-- the levels of each rule keep their rows, and get only rows with this place
abbrev pub AllGrow : List Element → ℕ → List RuleRows → List RuleRows → Type 0
AllGrow came place old new =
    (number : ℕ) (before after : RuleRows) → slice_get old number ≡ Some before → slice_get new number ≡ Some after → OnlyAdds came place (rows_of before.levels) (rows_of after.levels)

-- each negated condition element whose pattern the element passes was due
pub record AreNegatedDue (e : Element) (rules : List RuleRows) (due : List Asker) : Type 0 where
  pub each : (number : ℕ) (rule : RuleRows) (at : ℕ) (n : Negated) → slice_get rules number ≡ Some rule → slice_get rule.joins.negated at ≡ Some n → passes n.join.pattern e ≡ true →
      list_any (is_asker number at) due ≡ true

-- what weaving in leaves as it was: the rules of which no condition element was due, who serves the negated ones, and of
-- the stores all that lives
pub record AreTouched (places : List ℕ) (due : List Asker) (alpha : List Store) (more : List Store) (old : List RuleRows) (new : List RuleRows) : Type 0 where
  pub others : OthersStay due old new
  pub negated : negated_in new ≡ negated_in old
  pub cleaned : AreCleaned places alpha more
