-- The tokens of what is printed.
use Rattle.std.proofs.Common.{◌≡◌, ℕ, suc, ◌<◌, ◌^◌, ℤ, pos, negsuc, Bool, true, false, cond, ◌&&◌, List, [], ◌∷◌, ◌++◌, length, Some, nat_lt, codes, refl, sym, ap, ◌∙◌, append_assoc, arith, rules, tests}
use Rattle.std.specs.Char.{is_ascii_digit, digit_value}
use Rattle.std.specs.Fmt.{decimal, signed_decimal}
use Rattle.std.specs.List.{list_all}
use Rattle.std.specs.Str.Parse.{AllDigits, IsNumeral, without_leading_sign}
use Rattle.std.proofs.lemmas.Bool.Decides.{nat_tests}
use Rattle.std.proofs.lemmas.Int.{ints}
use Rattle.std.proofs.lemmas.Fmt.{decimal_is_IsNumeral}
use Rattle.ops_text.proofs.NumeralLemmas.{reads_back}
use Rattle.ops_tokens.specs.Byte.{is_letter, AreAll, BeginsWithout}
use Rattle.ops_tokens.specs.Naming.{symbol_name}
use Rattle.ops_tokens.specs.Token.{Token, Variable, Integer, Barred}
use Rattle.ops_tokens.specs.Word.{is_digits, is_integer, is_short, fits, word_token}
use Rattle.ops_tokens.specs.Tokens.{tokens_of}
use Rattle.form_printer.specs.CanonicalValues.{is_plain, is_bare, bare_or_barred}
use Rattle.ops_tokens.proofs.CutLemmas.{both_true, falls_into_tokens}
use Rattle.ops_tokens.proofs.ShapeLemmas.{and_true, all_weaker}
use Rattle.ops_tokens.proofs.WordLemmas.{fits_is}
use Rattle.form_printer.proofs.WordKinds.{plain_word, integer_word}
use Rattle.form_printer.proofs.LexedLemmas.{IsName, IsVariableName}

-- the tokens of the text, wherever it stands before something that ends a word
abbrev pub HasTokens : List ℕ → List Token → Type 0
HasTokens text found = (rest : List ℕ) → BeginsWithout is_letter rest → tokens_of (text ++ rest) ≡ found ++ tokens_of rest

-- the same whatever it stands before
abbrev pub HasTokensThere : List ℕ → List Token → Type 0
HasTokensThere text found = (rest : List ℕ) → tokens_of (text ++ rest) ≡ found ++ tokens_of rest

-- a word before the text ends there
abbrev pub EndsWords : List ℕ → Type 0
EndsWords text = (rest : List ℕ) → BeginsWithout is_letter rest → BeginsWithout is_letter (text ++ rest)

-- one text behind another
pub tokens_then : (one other : List ℕ) (found more : List Token) → HasTokensThere one found → HasTokens other more → HasTokens (one ++ other) (found ++ more)
tokens_then one other found more h k rest end =
    ap tokens_of (append_assoc one other rest) ∙ h (other ++ rest) ∙ ap (λ l. found ++ l) (k rest end) ∙ sym (append_assoc found more (tokens_of rest))

pub tokens_apart : (one other : List ℕ) (found more : List Token) → HasTokens one found → EndsWords other → HasTokens other more → HasTokens (one ++ other) (found ++ more)
tokens_apart one other found more h apart k rest end =
    ap tokens_of (append_assoc one other rest) ∙ h (other ++ rest) (apart rest end) ∙ ap (λ l. found ++ l) (k rest end) ∙ sym (append_assoc found more (tokens_of rest))

-- a text with a space behind it
pub tokens_blank : (text : List ℕ) (found : List Token) → HasTokens text found → HasTokensThere (text ++ codes " ") found
tokens_blank text found h rest = ap tokens_of (append_assoc text (codes " ") rest) ∙ h (codes " " ++ rest) refl

pub word_tokens : (word : List ℕ) (token : Token) → 0 < length word → AreAll is_letter word → word_token word ≡ token → HasTokens word (token ∷ [])
word_tokens word token some letters e rest end = falls_into_tokens.word word rest some letters end ∙ ap (λ t. t ∷ tokens_of rest) e

-- a symbol
pub record IsSymbol (text name : List ℕ) : Type 0 where
  pub token : Token
  pub found : HasTokens text (token ∷ [])
  pub name_of : symbol_name token ≡ Some name

barred_symbol : (name : List ℕ) → IsName name → IsSymbol (codes "|" ++ name ++ codes "|") name
barred_symbol name is_name = record {
  token = Barred name;
  found = λ rest end.
      ap tokens_of (append_assoc (codes "|" ++ name) (codes "|") rest)
      ∙ falls_into_tokens.barred name rest is_name.no_bar
      ∙ ap (λ t. t ∷ tokens_of rest) (let e : cond (is_short name) (Barred name) _ ≡ Barred name = rw is_name.short refl in e);
  name_of = refl;
}

bare_symbol : (name : List ℕ) → is_bare name ≡ true → IsSymbol name name
bare_symbol name bare =
    let all = both_true (nat_lt 0 (length name) && list_all is_letter name) (is_plain (word_token name)) bare in
    let both = both_true (nat_lt 0 (length name)) (list_all is_letter name) all.0 in
    let some : 0 < length name = search (rules, tests, both.0) in
    record { token = word_token name; found = word_tokens name (word_token name) some both.1 refl; name_of = plain_word name all.1 }

pub printed_symbol : (name : List ℕ) → IsName name → IsSymbol (bare_or_barred name) name
printed_symbol name is_name = by_bare (is_bare name) refl
  where
    by_bare : (v : Bool) → is_bare name ≡ v → IsSymbol (cond v name (codes "|" ++ name ++ codes "|")) name
    by_bare true e = bare_symbol name e
    by_bare false e = barred_symbol name is_name

-- a variable
pub printed_variable : (name : List ℕ) → IsVariableName name → HasTokens (codes "<" ++ name ++ codes ">") (Variable name ∷ [])
printed_variable name v = word_tokens (codes "<" ++ name ++ codes ">") (Variable name) (omega arith) v.letters v.token

-- an integer
digit_if_small : (c : ℕ) → digit_value c < 10 → is_ascii_digit c ≡ true
digit_if_small c h = grind (arith, nat_tests)

digit_is_letter : (c : ℕ) → is_ascii_digit c ≡ true → is_letter c ≡ true
digit_is_letter c h = grind (arith, nat_tests)

all_digits : (ds : List ℕ) → AllDigits 10 ds → AreAll is_ascii_digit ds
all_digits [] h = refl
all_digits (c ∷ cs) h = and_true (is_ascii_digit c) (list_all is_ascii_digit cs) (digit_if_small c h.0) (all_digits cs h.1)

numeral_is_digits : (ds : List ℕ) → IsNumeral 10 ds → is_digits ds ≡ true
numeral_is_digits ds h = and_true (nat_lt 0 (length ds)) (list_all is_ascii_digit ds) (let some = h.0 in search (rules, tests)) (all_digits ds h.1)

-- the bytes of an integer are a word
pub record IsWord (word : List ℕ) : Type 0 where
  pub some : 0 < length word
  pub letters : AreAll is_letter word

decimal_is_word : (n : ℕ) → n < 2 ^ 64 → IsWord (decimal n)
decimal_is_word n small =
    let numeral = (decimal_is_IsNumeral n small).0 in
    record { some = numeral.0; letters = all_weaker is_ascii_digit is_letter digit_is_letter (decimal n) (all_digits (decimal n) numeral.1) }

integer_is_word : (z : ℤ) → fits z ≡ true → IsWord (signed_decimal z)
integer_is_word (pos n) h = let f = fits_is (pos n) h in decimal_is_word n (omega (arith, ints))
integer_is_word (negsuc n) h =
    let f = fits_is (negsuc n) h in
    let w = decimal_is_word (suc n) (omega (arith, ints)) in
    record { some = omega arith; letters = w.letters }

pub printed_integer : (z : ℤ) → fits z ≡ true → HasTokens (signed_decimal z) (Integer z ∷ [])
printed_integer z h =
    let back = reads_back z (fits_is z h) in
    let w = integer_is_word z h in
    let integer : is_integer (signed_decimal z) ≡ true = numeral_is_digits (without_leading_sign (signed_decimal z)) back.0 in
    word_tokens (signed_decimal z) (Integer z) w.some w.letters (integer_word (signed_decimal z) integer (ap fits back.1 ∙ h) ∙ ap Integer back.1)
