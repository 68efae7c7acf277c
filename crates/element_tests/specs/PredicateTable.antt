-- The table of the predicates: which column two values stand in.
use Rattle.std.specs.Prelude.{ℕ, if◌then◌else◌, ◌==◌, int_lt}
use Rattle.std.specs.Ordering.{int_eq}
use Rattle.rule_base.specs.declared.value.Value.{Value}
use Rattle.rule_base.specs.declared.value.Value.TheVariants.{Int, Sym}

-- the column: of integers the first is less, equal or greater; symbols are equal or different; one of each
abbrev pub column_of : Value → Value → ℕ
column_of (Int a) (Int b) = if int_lt a b then 0 else if int_eq a b then 1 else 2
column_of (Sym a) (Sym b) = if a == b then 3 else 4
column_of (Int a) (Sym b) = 5
column_of (Sym a) (Int b) = 5
