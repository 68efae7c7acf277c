-- Texts with their tokens, from plain to odd.
use Rattle.std.specs.Prelude.{◌≡◌, ℕ, ◌++◌, ◌^◌, ◌-◌, pos, negsuc, List, [], ◌∷◌, Some, None, replicate, codes}
use Rattle.std.specs.Str.{byte}
use Rattle.rule_base.specs.declared.condition.Pred.TheVariants as pred
use Rattle.ops_tokens.specs.declared.token.Keyword.TheVariants as keyword
use Rattle.ops_tokens.specs.declared.token.LexicalFault.TheVariants.{Unclosed, BadNumeral, LongSymbol, NotInProfile}
use Rattle.ops_tokens.specs.Token.{Token, Open, Close, Caret, Arrow, Minus, Slashes, OpenList, CloseList, Predicate, Variable, Integer, Plain, Barred, Bad}
use Rattle.ops_tokens.specs.Tokens.{tokens_of}
use Rattle.ops_tokens.specs.Places.{places_of}

-- a symbol that is no keyword
abbrev pub symbol : List ℕ → Token
symbol word = Plain word None

-- a text is one token
abbrev pub IsOne : List ℕ → Token → Type 0
IsOne text token = tokens_of text ≡ token ∷ []

-- what looks like brackets and predicates
pub record AreAngleRows : Type 0 where
  pub variable_in_two : IsOne (codes "<<v>>") (symbol (codes "<<v>>"))
  pub three_brackets : IsOne (codes "<>>") (symbol (codes "<>>"))
  pub not_equal : IsOne (codes "<>") (Predicate pred.Ne)
  pub half_open : IsOne (codes "<a") (symbol (codes "<a"))
  pub half_closed : IsOne (codes "a>") (symbol (codes "a>"))
  pub minus_name : IsOne (codes "<->") (Variable (codes "-"))
  pub name_with_sign : IsOne (codes "<=x>") (Variable (codes "=x"))
  pub same_type : IsOne (codes "<=>") (Predicate pred.Same)
  pub arrow : IsOne (codes "-->") Arrow
  pub lists : tokens_of (codes "<< a >>") ≡ OpenList ∷ symbol (codes "a") ∷ CloseList ∷ []
  pub list_without_space : IsOne (codes "<<a") (symbol (codes "<<a"))

-- what looks like numbers
pub record AreNumberRows : Type 0 where
  pub point_behind : IsOne (codes "1.") (Bad NotInProfile)
  pub point_before : IsOne (codes ".5") (Bad NotInProfile)
  pub exponent : IsOne (codes "1e5") (Bad NotInProfile)
  pub signs : IsOne (codes "-2.5E+3") (Bad NotInProfile)
  pub point_alone : IsOne (codes ".") (symbol (codes "."))
  pub exponent_without_digits : IsOne (codes "1e") (symbol (codes "1e"))
  pub exponent_alone : IsOne (codes "e5") (symbol (codes "e5"))
  pub two_points : IsOne (codes "1.2.3") (symbol (codes "1.2.3"))
  pub point_and_mark : IsOne (codes "1.5e") (symbol (codes "1.5e"))
  pub negative : IsOne (codes "-5") (Integer (negsuc 4))
  pub plus : IsOne (codes "+5") (Integer (pos 5))
  pub two_words : tokens_of (codes "- 5") ≡ Minus ∷ Integer (pos 5) ∷ []
  pub zeros : IsOne (codes "000000000000000000000000") (Integer (pos 0))
  pub largest : IsOne (codes "9223372036854775807") (Integer (pos (2 ^ 63 - 1)))
  pub least : IsOne (codes "-9223372036854775808") (Integer (negsuc (2 ^ 63 - 1)))
  pub too_large : IsOne (codes "9223372036854775808") (Bad BadNumeral)
  pub too_small : IsOne (codes "-9223372036854775809") (Bad BadNumeral)

-- what ends a token, and how long one may be
pub record AreEndRows : Type 0 where
  pub bar_ends_a_word : tokens_of (codes "ab|c d|") ≡ symbol (codes "ab") ∷ Barred (codes "c d") ∷ []
  pub comment_ends_a_word : tokens_of (codes "ab;c d") ≡ symbol (codes "ab") ∷ []
  pub comment_ends_with_the_line : tokens_of (codes "; a" ++ 10 ∷ codes "b") ≡ symbol (codes "b") ∷ []
  pub semicolon_in_bars : IsOne (codes "|a;b|") (Barred (codes "a;b"))
  pub empty_bars : IsOne (codes "||") (Barred [])
  pub bar_without_end : IsOne (codes "|a b") (Bad Unclosed)
  pub brackets : tokens_of (codes "(p^x)") ≡ Open ∷ Plain (codes "p") (Some keyword.P) ∷ Caret ∷ symbol (codes "x") ∷ Close ∷ []
  pub quotes : tokens_of (codes "// ///") ≡ Slashes ∷ symbol (codes "///") ∷ []
  pub longest : IsOne (replicate 255 (byte "a")) (symbol (replicate 255 (byte "a")))
  pub too_long : IsOne (replicate 256 (byte "a")) (Bad LongSymbol)
  pub too_long_in_bars : IsOne (byte "|" ∷ replicate 256 (byte "a") ++ codes "|") (Bad LongSymbol)
  pub longest_name : IsOne (byte "<" ∷ replicate 255 (byte "a") ++ codes ">") (Variable (replicate 255 (byte "a")))
  pub too_long_name : IsOne (byte "<" ∷ replicate 256 (byte "a") ++ codes ">") (Bad LongSymbol)

-- the byte at which each token begins, counted from 0
pub record ArePlaceRows : Type 0 where
  pub none : places_of (codes " ; a") ≡ []
  pub words_and_marks : places_of (codes "(p ab^x)") ≡ 0 ∷ 1 ∷ 3 ∷ 5 ∷ 6 ∷ 7 ∷ []
  pub behind_a_comment : places_of (codes "a;(b" ++ 10 ∷ codes " c") ≡ 0 ∷ 6 ∷ []
  pub bars : places_of (codes "ab|c d| e") ≡ 0 ∷ 2 ∷ 8 ∷ []
  pub all_of_them : places_of (codes "(a ;b" ++ 10 ∷ codes "|c d|") ≡ 0 ∷ 1 ∷ 6 ∷ []
  pub bar_without_end : places_of (codes "a |b c") ≡ 0 ∷ 6 ∷ []
