-- The values of attributes.
use Rattle.std.specs.Prelude.{Bool, false, ◌==◌}
use Rattle.std.specs.Ordering.{int_eq}
use Rattle.rule_base.specs.declared.value.Value.{Value}
use Rattle.rule_base.specs.declared.value.Value.TheVariants.{Int, Sym}

-- the symbol `nil`, which an attribute has that isn't given
abbrev pub nil : Value
nil = Sym 0

-- whether two values are the same
abbrev pub same_value : Value → Value → Bool
same_value (Int a) (Int b) = int_eq a b
same_value (Sym a) (Sym b) = a == b
same_value (Int a) (Sym b) = false
same_value (Sym a) (Int b) = false
