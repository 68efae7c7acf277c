-- Hashing: keys as numbers of 64 bits. Equal keys have equal numbers; that different ones rarely do is not said.
use Rattle.std.specs.Prelude.{ℕ, List, ◌+◌, ◌*◌, ◌%◌, ◌^◌, fold}
use Rattle.std.specs.Int.{cast_unsigned}
use mir.Syntax.{w64}
use Rattle.rule_base.specs.declared.value.Value.{Value}
use Rattle.rule_base.specs.declared.value.Value.TheVariants.{Int, Sym}

-- a number for the value: an integer's own bits, and a symbol's number from 2 ^ 63 on
abbrev pub code_of : Value → ℕ
code_of (Int n) = cast_unsigned w64 n
code_of (Sym symbol) = 2 ^ 63 + symbol

-- the hash once one more value is mixed in
abbrev pub mixed : ℕ → Value → ℕ
mixed hash value = ((hash + code_of value) % 2 ^ 64 * 0x9e3779b97f4a7c15) % 2 ^ 64

-- the hash of a key
abbrev pub hash_of : List Value → ℕ
hash_of values = fold mixed 0 values
