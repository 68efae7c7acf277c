-- How a text falls into tokens, from its front on.
use Rattle.std.specs.Prelude.{◌≡◌, ℕ, List, [], ◌∷◌, ◌++◌, ◌<◌, length}
use Rattle.std.specs.Str.{byte}
use Rattle.ops_tokens.specs.declared.byte.ByteKind.TheVariants.{Blank}
use Rattle.ops_tokens.specs.declared.token.LexicalFault.TheVariants.{Unclosed}
use Rattle.ops_tokens.specs.Byte.{kind_of, is_letter, stands_in_bars, stands_in_line, AreAll, BeginsWithout}
use Rattle.ops_tokens.specs.Token.{Token, Bad}
use Rattle.ops_tokens.specs.Word.{word_token}
use Rattle.ops_tokens.specs.Tokens.{mark, barred_token, tokens_of}

-- what each front of a text makes of its tokens
pub record FallsIntoTokens : Type 0 where
  pub at_the_end : tokens_of [] ≡ []
  -- white space vanishes, and so does a comment, up to the line's end
  pub blank : (b : ℕ) (rest : List ℕ) → kind_of b ≡ Blank → tokens_of (b ∷ rest) ≡ tokens_of rest
  pub line_feed : (rest : List ℕ) → tokens_of (10 ∷ rest) ≡ tokens_of rest
  pub comment : (line rest : List ℕ) → AreAll stands_in_line line → BeginsWithout stands_in_line rest
      → tokens_of (byte ";" ∷ line ++ rest) ≡ tokens_of rest
  -- a bracket or a caret is a token by itself
  pub marks : (b : ℕ) (rest : List ℕ) (token : Token) → mark (kind_of b) ≡ token ∷ [] → tokens_of (b ∷ rest) ≡ token ∷ tokens_of rest
  -- a longest run of letters is one word
  pub word : (word rest : List ℕ) → 0 < length word → AreAll is_letter word → BeginsWithout is_letter rest
      → tokens_of (word ++ rest) ≡ word_token word ∷ tokens_of rest
  -- what stands between two bars is one symbol, and a bar needs a second one
  pub barred : (content rest : List ℕ) → AreAll stands_in_bars content
      → tokens_of (byte "|" ∷ content ++ byte "|" ∷ rest) ≡ barred_token content ∷ tokens_of rest
  pub bar_without_end : (content : List ℕ) → AreAll stands_in_bars content → tokens_of (byte "|" ∷ content) ≡ Bad Unclosed ∷ []
