-- The rows that come of walking along what is filed under one hash.
use Rattle.std.specs.Prelude.{◌≡◌, ℕ, List, Bool, true, not, ◌&&◌, filter, map, slice_get}
use Rattle.rule_base.specs.declared.element.Element.{Element}
use Rattle.rule_base.specs.Numbers.{has_number}
use Rattle.join_tests.specs.declared.joins.Join.{Join}
use Rattle.join_tests.specs.Joining.{same_key, tests_hold}
use Rattle.match_network.specs.Filed.{row_at}
use Rattle.match_network.specs.Row.{elements_of, some_passes}
use Rattle.match_network.specs.Woven.{with_place}

-- whether an element agrees with others in the join's key and in its other tests
abbrev pub agrees : Join → List Element → Element → Bool
agrees join es e = same_key join.key es e && tests_hold join.tests es e

-- whether the element at a place agrees with those of a row
abbrev pub agrees_at : Join → List Element → List ℕ → ℕ → Bool
agrees_at join came row place = some_passes (agrees join (elements_of came row)) (slice_get came place)

-- whether a row is without a place whose element agrees with its own
abbrev pub takes : Join → List Element → ℕ → List ℕ → Bool
takes join came place row = not (has_number row place) && agrees_at join came row place

-- the rows with these numbers that take a place, each with it
abbrev pub taken : Join → List Element → ℕ → List (List ℕ) → List ℕ → List (List ℕ)
taken join came place rows numbers = map (with_place place) (filter (takes join came place) (map (row_at rows) numbers))

-- a row with each of these places whose elements agree with its own
abbrev pub extended : Join → List Element → List ℕ → List ℕ → List (List ℕ)
extended join came row places = map (λ place. with_place place row) (filter (agrees_at join came row) places)

-- of what is filed some that doesn't live has gone
pub record IsCleaned (places : List ℕ) (old : List (ℕ × ℕ)) (new : List (ℕ × ℕ)) : Type 0 where
  pub keep : ℕ × ℕ → Bool
  pub is : new ≡ filter keep old
  pub living : (entry : ℕ × ℕ) → has_number places entry.1 ≡ true → keep entry ≡ true
