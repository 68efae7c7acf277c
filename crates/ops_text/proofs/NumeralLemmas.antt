-- What the text of an integer is as bytes.
use Rattle.std.proofs.Common.{◌≡◌, ℕ, ◌<◌, Bool, true, false, eqb, List, [], ◌∷◌, get_or, zero, suc, ◌^◌, pos, negsuc, neg_ℤ, refl, ap, arith, lit<}
use Rattle.std.proofs.lemmas.Int.{ints}
use Rattle.std.specs.Fmt.{decimal}
use Rattle.std.specs.Str.{IsAscii, IsUtf8}
use Rattle.std.proofs.lemmas.Str.{IsUtf8-from_ascii}
use Rattle.std.proofs.lemmas.Fmt.{IsAscii-from_digits, decimal_is_IsNumeral}
use Rattle.std.proofs.lemmas.Str.Parse.{digit_at}
use Rattle.ops_text.specs.Numeral.{IsInteger, integer_of, DecimalsReadBack}

-- an ASCII byte before ASCII bytes
IsAscii-cons : (first : ℕ) (rest : List ℕ) → first < 128 → IsAscii rest → IsAscii (first ∷ rest)
IsAscii-cons first rest small ascii zero = small
IsAscii-cons first rest small ascii (suc i) = ascii i

-- the text of an integer is ASCII: a sign is, and so is each digit
IsAscii-from_integer : (bytes : List ℕ) → IsInteger bytes → IsAscii bytes
IsAscii-from_integer [] integer = absurd (omega (arith, integer.0))
IsAscii-from_integer (first ∷ rest) integer = by_minus (eqb first 45) refl
  where
    by_plus : (b : Bool) → eqb first 43 ≡ b → eqb first 45 ≡ false → IsAscii (first ∷ rest)
    by_plus true plus minus = IsAscii-cons first rest (grind arith) (IsAscii-from_digits rest (rw (minus, plus) at integer.1))
    by_plus false plus minus = IsAscii-from_digits (first ∷ rest) (rw (minus, plus) at integer.1)

    by_minus : (b : Bool) → eqb first 45 ≡ b → IsAscii (first ∷ rest)
    by_minus true minus = IsAscii-cons first rest (grind arith) (IsAscii-from_digits rest (rw minus at integer.1))
    by_minus false minus = by_plus (eqb first 43) refl minus

-- so it is text
pub IsUtf8-from_integer : (bytes : List ℕ) → IsInteger bytes → IsUtf8 bytes
IsUtf8-from_integer bytes integer = IsUtf8-from_ascii bytes (IsAscii-from_integer bytes integer)

-- the text of a natural number begins with no sign
begins_with_digit : (n sign : ℕ) → n < 2 ^ 63 → sign < 48 → eqb (get_or (decimal n) 0 0) sign ≡ false
begins_with_digit n sign small low =
    let text = decimal_is_IsNumeral n (omega arith) in
    let digit = digit_at (decimal n) 0 text.0.1 text.0.0 in
    grind arith

-- the text of a natural number is an integer's
pub integer_of-decimal : (n : ℕ) → n < 2 ^ 63 → IsInteger (decimal n) × (integer_of (decimal n) ≡ pos n)
integer_of-decimal n small =
    let text = decimal_is_IsNumeral n (omega arith) in
    let no_minus = begins_with_digit n 45 small (lit< tt) in
    let no_plus = begins_with_digit n 43 small (lit< tt) in
    rw (no_minus, no_plus) (text.0, ap pos text.1)

-- the text of an integer reads back
pub reads_back : DecimalsReadBack
reads_back (pos n) fits = integer_of-decimal n (omega (arith, ints))
reads_back (negsuc n) fits =
    let text = decimal_is_IsNumeral (suc n) (omega (arith, ints)) in
    (text.0, ap (λ m. neg_ℤ (pos m)) text.1)
