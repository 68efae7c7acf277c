-- One to seven digits are read as the number that they write.
use Rattle.std.proofs.Common.{◌≡◌, ℕ, ◌^◌, ◌<◌, ◌≤◌, true, ◌&&◌, List, Result, Ok, length, nat_le, arith}
use Rattle.std.specs.Str.{all_ascii_digits}
use Rattle.std.specs.Str.Parse.{digits_value, ParsesUnsigned}
use Rattle.std.proofs.lemmas.Bool.Decides.{nat_tests}
use Rattle.std.proofs.lemmas.Str.Parse.{digits_value_short, numerals_by_value, parse_gives, tells_all_ascii_digits}
use Rattle.ops_command.specs.Words.{is_short_numeral}
use Rattle.ops_command.proofs.ChainLemmas.{both}

-- what a test of two numbers says
at_most : (a b : ℕ) → nat_le a b ≡ true → a ≤ b
at_most a b e = grind (arith, nat_tests)

pub parsed_numeral : {E : Type 0} (word : List ℕ) (r : Result ℕ E) → is_short_numeral word ≡ true → ParsesUnsigned 64 10 word r → r ≡ Ok (digits_value 10 word)
parsed_numeral word r short parsed =
    let tests = both (nat_le 1 (length word) && nat_le (length word) 7) (all_ascii_digits word) short in
    let lengths = both (nat_le 1 (length word)) (nat_le (length word) 7) tests.0 in
    let own = numerals_by_value (λ ds. all_ascii_digits ds ≡ true) tells_all_ascii_digits in
    let value : digits_value 10 word < 10 ^ 7 = digits_value_short own word 7 tests.1 (at_most (length word) 7 lengths.1) in
    parse_gives own 64 word r parsed tests.1 (omega (arith, at_most 1 (length word) lengths.0)) (omega (arith, value))
