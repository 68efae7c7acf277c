-- The pairs of a row and an element that are tried: those that agree in the key. Each counts as one step.
use Rattle.std.specs.Prelude.{ℕ, ◌+◌, ◌-◌, List, [], ◌∷◌, Bool, not, ◌&&◌, length, slice_get, zero, suc}
use Rattle.std.specs.Option.{option_map_or}
use Rattle.rule_base.specs.declared.element.Element.{Element}
use Rattle.rule_base.specs.Numbers.{has_number}
use Rattle.join_tests.specs.declared.joins.Join.{Join}
use Rattle.join_tests.specs.Joining.{same_key}
use Rattle.match_network.specs.declared.askers.Asker.{Asker}
use Rattle.match_network.specs.Conditions.{joins_of, rows_of}
use Rattle.match_network.specs.Filed.{passes_at}
use Rattle.match_network.specs.Row.{elements_of, is_living, some_passes}
use Rattle.alpha_memory.specs.Times.{times}
use Rattle.match_network.specs.Rules.{RuleRows}
use Rattle.match_network.specs.Woven.{made}

-- whether the element at a place has the key that a row asks for
abbrev pub has_key : Join → List Element → List ℕ → ℕ → Bool
has_key join came row place = some_passes (same_key join.key (elements_of came row)) (slice_get came place)

-- whether a row is tried with a place that is to be new in it
abbrev pub tries : Join → List Element → ℕ → List ℕ → Bool
tries join came place row = not (has_number row place) && has_key join came row place

-- how many of these rows, in working memory, are tried with a place
abbrev pub rows_tried : Join → List Element → List ℕ → ℕ → List (List ℕ) → ℕ
rows_tried join came places place rows = times (λ row. is_living places row && tries join came place row) rows

-- how many of these places, whose elements pass, a row is tried with
abbrev pub places_tried : Join → List Element → List ℕ → List ℕ → ℕ
places_tried join came places row = times (λ p. passes_at join came p && has_key join came row p) places

-- the same for all of these rows
abbrev pub pairs_tried : Join → List Element → List ℕ → List (List ℕ) → ℕ
pairs_tried join came places [] = 0
pairs_tried join came places (row ∷ rows) = places_tried join came places row + pairs_tried join came places rows

-- a count for the condition element with a number, and 0 if there is none
abbrev pub at_number : List Join → ℕ → (Join → ℕ) → ℕ
at_number all number count = option_map_or count (slice_get all number) 0

-- all that is tried where a place is woven in at a condition element, up to so many levels past its own
abbrev pub woven_tried : List Join → List Element → List ℕ → ℕ → ℕ → List (List ℕ) → ℕ → ℕ
woven_tried all came places place at rows zero = at_number all at (λ join. rows_tried join came places place rows)
woven_tried all came places place at rows (suc further) =
    woven_tried all came places place at rows further + at_number all (at + further + 1) (λ join. pairs_tried join came places (made (joins_of all) came places place rows further))

-- all that is tried where a place is woven in at a condition element of a rule
abbrev pub rule_tried : RuleRows → List Element → List ℕ → ℕ → ℕ → ℕ
rule_tried rule came places place at = woven_tried rule.joins.positives came places place at (rows_of rule.levels at) (length rule.joins.positives - (at + 1))

-- the same at a condition element of one of these rules
abbrev pub due_tried : List RuleRows → List Element → List ℕ → ℕ → Asker → ℕ
due_tried rules came places place due = option_map_or (λ (rule : RuleRows). rule_tried rule came places place due.condition) (slice_get rules due.rule) 0
