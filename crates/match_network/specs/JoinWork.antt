-- How much work the join of one element takes, told by the partial matches of working memory alone.
use Rattle.std.specs.Prelude.{ℕ, ◌+◌, List, [], ◌∷◌, ◌++◌, if◌then◌else◌, filter, map, suc, zero}
use Rattle.std.specs.List.{enumerate_from, flat_map, sum_by}
use Rattle.rule_base.specs.declared.element.Element.{Element}
use Rattle.rule_base.specs.Numbers.{has_number}
use Rattle.join_tests.specs.declared.joins.Join.{Join}
use Rattle.alpha_memory.specs.Times.{times}
use Rattle.match_network.specs.Conditions.{joins_of}
use Rattle.match_network.specs.Filed.{passes_at}
use Rattle.match_network.specs.Row.{Joins, extends}
use Rattle.match_network.specs.Rules.{RuleRows}
use Rattle.match_network.specs.Tried.{has_key, pairs_tried}
use Rattle.match_network.specs.Woven.{with_place}

-- the partial matches of so many positive condition elements, as rows of places
abbrev pub partial_matches : Joins → List Element → List ℕ → ℕ → List (List ℕ)
partial_matches joins came places zero = [] ∷ []
partial_matches joins came places (suc number) =
    flat_map (λ row. map (λ place. with_place place row) (filter (extends joins came row) places)) (partial_matches joins came places number)

-- the work at the condition element with a number, where an element comes to a place: if it passes there, the partial
-- matches before it that have its key; and the pairs that are tried of those partial matches that have the place
abbrev pub work_at : List Join → List Element → List ℕ → ℕ → ℕ → Join → ℕ
work_at all came places place number join =
    (if passes_at join came place then times (λ row. has_key join came row place) (partial_matches (joins_of all) came places number) else 0)
    + pairs_tried join came (places ++ place ∷ []) (filter (λ row. has_number row place) (partial_matches (joins_of all) came (places ++ place ∷ []) number))

-- the same for all condition elements
abbrev pub join_work : List Join → List Element → List ℕ → ℕ → ℕ
join_work all came places place = sum_by (λ (numbered : ℕ × Join). work_at all came places place numbered.0 numbered.1) (enumerate_from 0 all)

-- and for all rules
abbrev pub join_work_of : List RuleRows → List Element → List ℕ → ℕ → ℕ
join_work_of rules came places place = sum_by (λ (rule : RuleRows). join_work rule.joins.positives came places place) rules
