-- Where the tokens of a text stand, from its front on. Places are told by how much of the text is left from a token on.
use Rattle.std.specs.Prelude.{◌≡◌, ℕ, List, [], ◌∷◌, ◌++◌, ◌<◌, length}
use Rattle.std.specs.Str.{byte}
use Rattle.ops_tokens.specs.declared.byte.ByteKind.TheVariants.{Blank}
use Rattle.ops_tokens.specs.Byte.{kind_of, is_letter, stands_in_bars, stands_in_line, AreAll, BeginsWithout}
use Rattle.ops_tokens.specs.Token.{Token}
use Rattle.ops_tokens.specs.Tokens.{mark, tokens_of}
use Rattle.ops_tokens.specs.Places.{lefts_of, places_of}

-- each token has a place, and what each front of a text makes of the places
pub record HavePlaces : Type 0 where
  pub each : (text : List ℕ) → length (places_of text) ≡ length (tokens_of text)
  pub at_the_end : lefts_of [] ≡ []
  -- white space has none, and neither has a comment, up to the line's end
  pub blank : (b : ℕ) (rest : List ℕ) → kind_of b ≡ Blank → lefts_of (b ∷ rest) ≡ lefts_of rest
  pub line_feed : (rest : List ℕ) → lefts_of (10 ∷ rest) ≡ lefts_of rest
  pub comment : (line rest : List ℕ) → AreAll stands_in_line line → BeginsWithout stands_in_line rest
      → lefts_of (byte ";" ∷ line ++ rest) ≡ lefts_of rest
  -- a bracket or a caret stands at its byte
  pub marks : (b : ℕ) (rest : List ℕ) (token : Token) → mark (kind_of b) ≡ token ∷ [] → lefts_of (b ∷ rest) ≡ length (b ∷ rest) ∷ lefts_of rest
  -- a longest run of letters stands at its first one
  pub word : (word rest : List ℕ) → 0 < length word → AreAll is_letter word → BeginsWithout is_letter rest
      → lefts_of (word ++ rest) ≡ length (word ++ rest) ∷ lefts_of rest
  -- what stands between two bars stands at the first of them, and a bar without a second one is wrong at the end of the text
  pub barred : (content rest : List ℕ) → AreAll stands_in_bars content
      → lefts_of (byte "|" ∷ content ++ byte "|" ∷ rest) ≡ length (byte "|" ∷ content ++ byte "|" ∷ rest) ∷ lefts_of rest
  pub bar_without_end : (content : List ℕ) → AreAll stands_in_bars content → lefts_of (byte "|" ∷ content) ≡ 0 ∷ []
