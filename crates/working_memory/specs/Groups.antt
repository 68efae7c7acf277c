-- Groups of places by their keys.
use Rattle.std.specs.Prelude.{ℕ, ℤ, pos, ◌==◌, ◌&&◌, Bool, false, true, List, []}
use Rattle.std.specs.Bool.{beq}
use Rattle.std.specs.Map.{lookup}
use Rattle.std.specs.Option.{unwrap_or}
use Rattle.std.specs.Ordering.{int_eq}
use Rattle.rule_base.specs.declared.value.Value.{Value}
use Rattle.rule_base.specs.declared.value.Value.TheVariants.{Int, Sym}
use Rattle.rule_base.specs.Value.{same_value}
use Rattle.working_memory.specs.declared.groups.Key.{Key}

-- whether two keys are the same
abbrev pub same_key : Key → Key → Bool
same_key a b = (a.class == b.class) && (a.attribute == b.attribute) && same_value a.value b.value

-- whether a value is a symbol
abbrev pub is_symbol : Value → Bool
is_symbol (Int n) = false
is_symbol (Sym n) = true

-- a value's number: itself, or that of the symbol
abbrev pub number_of : Value → ℤ
number_of (Int n) = n
number_of (Sym n) = pos n

-- a key as numbers
abbrev pub Code : Type 0
Code = ℕ × ℕ × Bool × ℤ

abbrev pub code_of : Key → Code
code_of key = (key.class, key.attribute, is_symbol key.value, number_of key.value)

-- whether two codes are the same
abbrev pub same_code : Code → Code → Bool
same_code a b = (((a.0 == b.0) && (a.1 == b.1)) && beq a.2 b.2) && int_eq a.3 b.3

-- the places by the codes of their keys
abbrev pub Groups : Type 0
Groups = List (Code × List ℕ)

-- the places with this key, in the order in which they were added
abbrev pub group : Groups → Key → List ℕ
group groups key = unwrap_or (lookup (same_code (code_of key)) groups) []
