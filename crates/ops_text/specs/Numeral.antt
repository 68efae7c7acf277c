-- Integers as decimal texts.
use Rattle.std.specs.Prelude.{◌≡◌, ℕ, List, ℤ, FitsSigned}
use Rattle.std.specs.Fmt.{signed_decimal}
use Rattle.std.specs.Int.{w64}
use Rattle.std.specs.Str.Parse.{IsNumeral, without_leading_sign, signed_digits_value}

-- an optional sign, then one or more decimal digits and nothing else
abbrev pub IsInteger : List ℕ → Type 0
IsInteger bytes = IsNumeral 10 (without_leading_sign bytes)

-- the number that the sign and the digits write
abbrev pub integer_of : List ℕ → ℤ
integer_of bytes = signed_digits_value 10 bytes

-- the bytes write an integer of 64 bits, by however many digits
abbrev pub IsShortInteger : List ℕ → Type 0
IsShortInteger bytes = IsInteger bytes × FitsSigned w64 (integer_of bytes)

-- the text of an integer of 64 bits reads back as that integer
abbrev pub DecimalsReadBack : Type 0
DecimalsReadBack = (value : ℤ) → FitsSigned w64 value → IsInteger (signed_decimal value) × (integer_of (signed_decimal value) ≡ value)
