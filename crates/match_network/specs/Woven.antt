-- The rows that come of a place: an element is there, and joins rows that were there before.
use Rattle.std.specs.Prelude.{ℕ, ◌+◌, ◌-◌, List, [], ◌∷◌, ◌++◌, not, ◌&&◌, zero, suc, map, filter, reverse, nat_le, if◌then◌else◌}
use Rattle.std.specs.List.{flat_map}
use Rattle.rule_base.specs.declared.element.Element.{Element}
use Rattle.rule_base.specs.Numbers.{has_number}
use Rattle.match_network.specs.Row.{Joins, extends, is_living}

-- the rows of one level, by the number of their places
abbrev pub Levels : Type 0
Levels = ℕ → List (List ℕ)

-- the row with one more place
abbrev pub with_place : ℕ → List ℕ → List ℕ
with_place place row = row ++ place ∷ []

-- of these rows, those in working memory without a place whose element joins them, the newest first
abbrev pub joined : Joins → List Element → List ℕ → ℕ → List (List ℕ) → List (List ℕ)
joined joins came places place rows =
    reverse (filter (λ row. (is_living places row && not (has_number row place)) && extends joins came row place) rows)

-- the places in working memory whose elements join a row, the newest first
abbrev pub offered : Joins → List Element → List ℕ → List ℕ → List ℕ
offered joins came places row = reverse (filter (extends joins came row) places)

-- each of these rows with each place that is offered to it
abbrev pub grown : Joins → List Element → List ℕ → List (List ℕ) → List (List ℕ)
grown joins came places rows = flat_map (λ row. map (λ place. with_place place row) (offered joins came places row)) rows

-- the rows that a place makes at the condition element past these rows, and so many levels further on
abbrev pub made : Joins → List Element → List ℕ → ℕ → List (List ℕ) → ℕ → List (List ℕ)
made joins came places place rows zero = map (with_place place) (joined joins came places place rows)
made joins came places place rows (suc further) = grown joins came places (made joins came places place rows further)

-- the levels once a place has been woven in at a condition element: those past it have the rows that it makes
abbrev pub woven : Joins → List Element → List ℕ → ℕ → ℕ → Levels → Levels
woven joins came places place at levels width =
    if nat_le width at then levels width
    else levels width ++ made joins came places place (levels at) (width - (at + 1))
