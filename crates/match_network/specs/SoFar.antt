-- A level while rows are added to it.
use Rattle.std.specs.Prelude.{◌≡◌, ℕ, List, ◌++◌}
use Rattle.rule_base.specs.declared.element.Element.{Element}
use Rattle.join_tests.specs.declared.joins.Join.{Join}
use Rattle.match_network.specs.Filed.{LevelRows, with_rows}

-- a level has got the first of the rows that it is to get, and these are left
pub record IsSoFar (next : List Join) (came : List Element) (old : LevelRows) (new : LevelRows) (rows : List (List ℕ)) (left : List (List ℕ)) : Type 0 where
  pub some : List (List ℕ)
  pub split : rows ≡ some ++ left
  pub is : new ≡ with_rows next came old some

-- a level has got the first of the rows that it is to get
abbrev pub IsPart : List Join → List Element → LevelRows → LevelRows → List (List ℕ) → Type 0
IsPart next came old new rows = (left : List (List ℕ)) × IsSoFar next came old new rows left
