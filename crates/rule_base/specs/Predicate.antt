-- What the predicates ask of an attribute's value and the value beside it.
use Rattle.std.specs.Prelude.{Bool, true, false, not, int_lt, int_le}
use Rattle.rule_base.specs.declared.value.Value.{Value}
use Rattle.rule_base.specs.declared.value.Value.TheVariants.{Int, Sym}
use Rattle.rule_base.specs.declared.condition.Pred.{Pred}
use Rattle.rule_base.specs.declared.condition.Pred.TheVariants.{Eq, Ne, Lt, Le, Gt, Ge, Same}
use Rattle.rule_base.specs.Value.{same_value}

-- whether both are integers and the first is less: a symbol is neither less nor greater than anything
abbrev pub is_less : Value → Value → Bool
is_less (Int a) (Int b) = int_lt a b
is_less (Int a) (Sym b) = false
is_less (Sym a) b = false

-- whether both are integers and the first is at most the second
abbrev pub is_at_most : Value → Value → Bool
is_at_most (Int a) (Int b) = int_le a b
is_at_most (Int a) (Sym b) = false
is_at_most (Sym a) b = false

-- whether both are integers, or both symbols
abbrev pub same_type : Value → Value → Bool
same_type (Int a) (Int b) = true
same_type (Sym a) (Sym b) = true
same_type (Int a) (Sym b) = false
same_type (Sym a) (Int b) = false

-- whether the predicate holds of an attribute's value and the constant or the variable's value
abbrev pub holds : Pred → Value → Value → Bool
holds Eq value other = same_value value other
holds Ne value other = not (same_value value other)
holds Lt value other = is_less value other
holds Le value other = is_at_most value other
holds Gt value other = is_less other value
holds Ge value other = is_at_most other value
holds Same value other = same_type value other

-- whether a predicate asks for the same value
abbrev pub is_equality : Pred → Bool
is_equality Eq = true
is_equality Ne = false
is_equality Lt = false
is_equality Le = false
is_equality Gt = false
is_equality Ge = false
is_equality Same = false
