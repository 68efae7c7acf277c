-- Which token a word is: a sign, a predicate, a variable, an integer, a floating-point number, or else a
-- plain symbol, by the first of these that fits.
use Rattle.std.specs.Prelude.{ℕ, ◌-◌, ◌^◌, ℤ, pos, negsuc, Bool, not, ◌&&◌, ◌||◌, ◌==◌, if◌then◌else◌, List, length, take, drop, Option, Some, None, unwrap_or, nat_lt, nat_le, slice_index, count_by, codes}
use Rattle.std.specs.Option.{option_map, option_or}
use Rattle.std.specs.Char.{is_ascii_digit}
use Rattle.std.specs.List.{list_any, list_all, before_first, after_first, position_or_len}
use Rattle.std.specs.Str.{byte, bytes_eq}
use Rattle.std.specs.Str.Parse.{without_leading_sign}
use Rattle.ops_text.specs.Numeral.{integer_of}
use Rattle.rule_base.specs.declared.condition.Pred.{Pred}
use Rattle.rule_base.specs.declared.condition.Pred.TheVariants as pred
use Rattle.ops_tokens.specs.declared.token.Keyword.{Keyword}
use Rattle.ops_tokens.specs.declared.token.Keyword.TheVariants as keyword
use Rattle.ops_tokens.specs.declared.token.LexicalFault.TheVariants.{BadNumeral, LongSymbol, NotInProfile}
use Rattle.ops_tokens.specs.Token.{Token, Arrow, Minus, Slashes, OpenList, CloseList, Predicate, Variable, Integer, Plain, Bad}

-- the words that are predicates
abbrev pub predicate_of : List ℕ → Option Pred
predicate_of word =
    if bytes_eq word (codes "=") then Some pred.Eq
    else if bytes_eq word (codes "<>") then Some pred.Ne
    else if bytes_eq word (codes "<") then Some pred.Lt
    else if bytes_eq word (codes "<=") then Some pred.Le
    else if bytes_eq word (codes ">") then Some pred.Gt
    else if bytes_eq word (codes ">=") then Some pred.Ge
    else if bytes_eq word (codes "<=>") then Some pred.Same
    else None

-- the words that are signs of the grammar
abbrev pub sign_of : List ℕ → Option Token
sign_of word =
    if bytes_eq word (codes "-->") then Some Arrow
    else if bytes_eq word (codes "-") then Some Minus
    else if bytes_eq word (codes "//") then Some Slashes
    else if bytes_eq word (codes "<<") then Some OpenList
    else if bytes_eq word (codes ">>") then Some CloseList
    else None

-- the bytes of a word but for its first and its last
abbrev pub inner : List ℕ → List ℕ
inner word = take (length word - 2) (drop 1 word)

-- an angle bracket
abbrev pub is_angle : ℕ → Bool
is_angle b = b == byte "<" || b == byte ">"

-- a variable: at least one byte in angle brackets, and none of them such a bracket
abbrev pub is_variable : List ℕ → Bool
is_variable word =
    nat_le 3 (length word) && slice_index word 0 == byte "<" && slice_index word (length word - 1) == byte ">"
    && not (list_any is_angle (inner word))

-- one or more digits and nothing else
abbrev pub is_digits : List ℕ → Bool
is_digits word = nat_lt 0 (length word) && list_all is_ascii_digit word

-- an integer: an optional sign and digits
abbrev pub is_integer : List ℕ → Bool
is_integer word = is_digits (without_leading_sign word)

-- what stands in a number without an exponent
abbrev pub is_digit_or_point : ℕ → Bool
is_digit_or_point b = is_ascii_digit b || b == byte "."

-- digits with one point before, among or after them
abbrev pub is_pointed : List ℕ → Bool
is_pointed word =
    nat_lt 1 (length word) && count_by (λ b. b == byte ".") word == 1 && list_all is_digit_or_point word

-- what begins an exponent, in either case
abbrev pub is_exponent_mark : ℕ → Bool
is_exponent_mark b = b == byte "e" || b == byte "E"

-- what stands before an exponent: digits, perhaps with a point
abbrev pub is_mantissa : List ℕ → Bool
is_mantissa number = is_digits number || is_pointed number

-- a number with an exponent, which is an integer behind the first mark
abbrev pub is_scientific : List ℕ → Bool
is_scientific number =
    nat_lt (position_or_len is_exponent_mark number) (length number)
    && is_mantissa (before_first is_exponent_mark number)
    && is_integer (after_first is_exponent_mark number)

-- a floating-point number: an optional sign, and digits with a point or an exponent
abbrev pub is_float : List ℕ → Bool
is_float word = is_pointed (without_leading_sign word) || is_scientific (without_leading_sign word)

-- the words that begin forms, and those of a strategy
abbrev pub form_keyword : List ℕ → Option Keyword
form_keyword word =
    if bytes_eq word (codes "literalize") then Some keyword.Literalize
    else if bytes_eq word (codes "p") then Some keyword.P
    else if bytes_eq word (codes "make") then Some keyword.Make
    else if bytes_eq word (codes "strategy") then Some keyword.Strategy
    else if bytes_eq word (codes "lex") then Some keyword.Lex
    else if bytes_eq word (codes "mea") then Some keyword.Mea
    else if bytes_eq word (codes "watch") then Some keyword.Watch
    else None

-- the words that begin actions, but for `make`
abbrev pub action_keyword : List ℕ → Option Keyword
action_keyword word =
    if bytes_eq word (codes "modify") then Some keyword.Modify
    else if bytes_eq word (codes "remove") then Some keyword.Remove
    else if bytes_eq word (codes "bind") then Some keyword.Bind
    else if bytes_eq word (codes "write") then Some keyword.Write
    else if bytes_eq word (codes "halt") then Some keyword.Halt
    else None

-- the words that begin values and items
abbrev pub item_keyword : List ℕ → Option Keyword
item_keyword word =
    if bytes_eq word (codes "compute") then Some keyword.Compute
    else if bytes_eq word (codes "crlf") then Some keyword.Crlf
    else if bytes_eq word (codes "tabto") then Some keyword.Tabto
    else if bytes_eq word (codes "rjust") then Some keyword.Rjust
    else None

-- the operators that are words and no signs
abbrev pub operator_keyword : List ℕ → Option Keyword
operator_keyword word =
    if bytes_eq word (codes "+") then Some keyword.Plus
    else if bytes_eq word (codes "*") then Some keyword.Star
    else if bytes_eq word (codes "\\\\") then Some keyword.Backslashes
    else None

-- the keywords, by their bytes
abbrev pub keyword_of : List ℕ → Option Keyword
keyword_of word = option_or (option_or (option_or (form_keyword word) (action_keyword word)) (item_keyword word)) (operator_keyword word)

-- a symbol or a variable's name has at most 255 bytes
abbrev pub is_short : List ℕ → Bool
is_short name = nat_le (length name) 255

-- a token with this name, unless the name is too long
abbrev pub within_limit : List ℕ → Token → Token
within_limit name token = if is_short name then token else Bad LongSymbol

-- the number fits signed 64 bits
abbrev pub fits : ℤ → Bool
fits (pos n) = nat_lt n (2 ^ 63)
fits (negsuc n) = nat_lt n (2 ^ 63)

-- an integer, unless it is too large or too small
abbrev pub integer_token : ℤ → Token
integer_token z = if fits z then Integer z else Bad BadNumeral

-- a word that is neither a sign nor a predicate
abbrev pub long_word : List ℕ → Token
long_word word =
    if is_variable word then within_limit (inner word) (Variable (inner word))
    else if is_integer word then integer_token (integer_of word)
    else if is_float word then Bad NotInProfile
    else within_limit word (Plain word (keyword_of word))

-- the token that a word is
abbrev pub word_token : List ℕ → Token
word_token word = unwrap_or (sign_of word) (unwrap_or (option_map Predicate (predicate_of word)) (long_word word))
