-- Rows: the places of elements for the first positive condition elements of a rule, in order.
use Rattle.std.specs.Prelude.{ℕ, ◌==◌, List, [], ◌∷◌, ◌++◌, Bool, true, false, not, ◌&&◌, Option, None, Some, slice_get, zero, suc, length}
use Rattle.std.specs.List.{filter_map, list_all}
use Rattle.rule_base.specs.declared.element.Element.{Element}
use Rattle.rule_base.specs.Numbers.{has_number}

-- whether an element joins those before it at the positive condition element with this number, from 0
abbrev pub Joins : Type 0
Joins = ℕ → List Element → Element → Bool

-- the elements that came at these places, in order
abbrev pub elements_of : List Element → List ℕ → List Element
elements_of came row = filter_map (slice_get came) row

-- whether there is an element, and it passes
abbrev pub some_passes : (Element → Bool) → Option Element → Bool
some_passes passes None = false
some_passes passes (Some e) = passes e

-- whether the element at a place joins those of a row
abbrev pub extends : Joins → List Element → List ℕ → ℕ → Bool
extends joins came row place = some_passes (joins (length row) (elements_of came row)) (slice_get came place)

-- whether each place of a row joins those before it and before the row
abbrev pub joins_after : Joins → List Element → List ℕ → List ℕ → Bool
joins_after joins came before [] = true
joins_after joins came before (place ∷ row) = extends joins came before place && joins_after joins came (before ++ place ∷ []) row

-- whether a row is a partial match
abbrev pub is_match : Joins → List Element → List ℕ → Bool
is_match joins came row = joins_after joins came [] row

-- whether all places of a row are in working memory
abbrev pub is_living : List ℕ → List ℕ → Bool
is_living places row = list_all (has_number places) row

-- whether the first of a row's places that is this one stands at this position, from 0
abbrev pub is_first : ℕ → ℕ → List ℕ → Bool
is_first place position [] = false
is_first place zero (other ∷ row) = other == place
is_first place (suc position) (other ∷ row) = not (other == place) && is_first place position row
