-- How much work elements make that come one after another: a rule of two positive condition elements.
use Rattle.std.specs.Prelude.{◌≡◌, ℕ, ◌+◌, List, [], ◌∷◌, take}
use Rattle.std.specs.List.{range_with_len, sum_by}
use Rattle.rule_base.specs.declared.element.Element.{Element}
use Rattle.rule_base.specs.Examples.Programs.{element, int}
use Rattle.join_tests.specs.declared.joins.Join.{Join}
use Rattle.join_tests.specs.declared.joins.KeyPart.{KeyPart}
use Rattle.match_network.specs.JoinWork.{join_work}

-- a condition element that asks for a class, and for equal values where this key says so
abbrev pub asks_for : ℕ → List KeyPart → Join
asks_for class key = record { pattern = record { class = class; size = 1; tests = [] }; key = key; tests = [] }

-- (a ^k <k>) (b ^k <k>)
abbrev pub keyed : List Join
keyed = asks_for 0 [] ∷ asks_for 1 (record { attribute = 0; source = record { condition = 0; attribute = 0 } } ∷ []) ∷ []

-- (a ^k <k>) (b)
abbrev pub crossed : List Join
crossed = asks_for 0 [] ∷ asks_for 1 [] ∷ []

-- three elements of each class, with the keys 1 to 3
abbrev pub six : List Element
six = element 1 0 (int 1 ∷ []) ∷ element 2 0 (int 2 ∷ []) ∷ element 3 0 (int 3 ∷ []) ∷ element 4 1 (int 1 ∷ []) ∷ element 5 1 (int 2 ∷ []) ∷ element 6 1 (int 3 ∷ []) ∷ []

-- the work of the element that comes to a place, where all before it are in working memory
abbrev pub work : List Join → ℕ → ℕ
work all place = join_work all (take (place + 1) six) (range_with_len 0 place) place

-- the first of each class, and all of them
pub record AreWorkRows : Type 0 where
  -- an element for the first condition element has the row of no places to try
  pub first : work keyed 0 ≡ 1
  -- one for the second has those with its key, and where there is no key all
  pub by_key : work keyed 3 ≡ 1
  pub by_none : work crossed 3 ≡ 3
  pub keyed_all : sum_by (work keyed) (range_with_len 0 6) ≡ 6
  pub crossed_all : sum_by (work crossed) (range_with_len 0 6) ≡ 12
