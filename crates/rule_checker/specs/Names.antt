-- Names and their numbers.
use Rattle.std.specs.Prelude.{ℕ, List, nat_eq, Option, position}
use Rattle.std.specs.Map.{lookup}

-- the number of a name among names: its place
abbrev pub number_in : List ℕ → ℕ → Option ℕ
number_in names name = position (nat_eq name) names

-- names, each with a number of its own choice
abbrev pub Numbering : Type 0
Numbering = List (ℕ × ℕ)

-- the number that goes with a name
abbrev pub number_of : Numbering → ℕ → Option ℕ
number_of numbering name = lookup (nat_eq name) numbering
