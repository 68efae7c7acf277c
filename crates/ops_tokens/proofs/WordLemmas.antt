-- Integers: the words that are one, and those that fit.
use Rattle.std.proofs.Common.{◌≡◌, ℕ, ◌^◌, ◌<◌, ℤ, pos, negsuc, Bool, true, false, List, [], ◌∷◌, length, nat_lt, T, cond, refl, arith, rules, tests}
use Rattle.std.specs.Prelude.{FitsSigned}
use Rattle.std.specs.Int.{w64}
use Rattle.std.proofs.Math.Facts.{sfits_lit}
use Rattle.std.specs.Char.{is_ascii_digit, digit_value}
use Rattle.std.specs.List.{list_all}
use Rattle.std.specs.Str.Parse.{AllDigits, IsNumeral, without_leading_sign}
use Rattle.std.proofs.lemmas.Bool.Decides.{nat_tests}
use Rattle.ops_text.specs.Numeral.{IsInteger, IsShortInteger, integer_of}
use Rattle.ops_tokens.specs.declared.token.LexicalFault.TheVariants.{BadNumeral}
use Rattle.ops_tokens.specs.Token.{Integer, Bad}
use Rattle.ops_tokens.specs.Word.{is_digits, is_integer, fits, integer_token}
use Rattle.ops_tokens.proofs.CutLemmas.{both_true}

digit_is : (c : ℕ) → is_ascii_digit c ≡ true → digit_value c < 10
digit_is c h = grind (arith, nat_tests)

digits_are : (ds : List ℕ) → list_all is_ascii_digit ds ≡ true → AllDigits 10 ds
digits_are [] h = tt
digits_are (c ∷ cs) h = let both = both_true (is_ascii_digit c) (list_all is_ascii_digit cs) h in (digit_is c both.0, digits_are cs both.1)

-- one digit or more
digits_make_a_numeral : (ds : List ℕ) → is_digits ds ≡ true → IsNumeral 10 ds
digits_make_a_numeral ds h =
    let both = both_true (nat_lt 0 (length ds)) (list_all is_ascii_digit ds) h in
    (search (rules, tests), digits_are ds both.1)

integer_is : (word : List ℕ) → is_integer word ≡ true → IsInteger word
integer_is word h = digits_make_a_numeral (without_leading_sign word) h

passed : (b : Bool) → b ≡ true → T b
passed true h = tt
passed false h = absurd (cc)

pub fits_is : (z : ℤ) → fits z ≡ true → FitsSigned w64 z
fits_is (pos n) h = sfits_lit {w = w64} {z = pos n} (passed (nat_lt n (2 ^ 63)) h)
fits_is (negsuc n) h = sfits_lit {w = w64} {z = negsuc n} (passed (nat_lt n (2 ^ 63)) h)

-- an integer that has no value of 64 bits
pub bad_numeral : (word : List ℕ) → is_integer word ≡ true → ¬ (IsShortInteger word) → integer_token (integer_of word) ≡ Bad BadNumeral
bad_numeral word h none = by_fit (fits (integer_of word)) refl
  where
    by_fit : (v : Bool) → fits (integer_of word) ≡ v → cond v (Integer (integer_of word)) (Bad BadNumeral) ≡ Bad BadNumeral
    by_fit true e = absurd (none (integer_is word h, fits_is (integer_of word) e))
    by_fit false e = refl
