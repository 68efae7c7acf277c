-- The tokens of a text, from its first byte to its last.
use Rattle.std.specs.Prelude.{ℕ, List, [], ◌∷◌, ◌++◌}
use Rattle.ops_tokens.specs.declared.byte.ByteKind.{ByteKind}
use Rattle.ops_tokens.specs.declared.byte.ByteKind.TheVariants.{LineFeed, Semicolon, Bar, Open, Close, OpenBrace, CloseBrace, Caret, Letter}
use Rattle.ops_tokens.specs.declared.token.LexicalFault.TheVariants.{Unclosed}
use Rattle.ops_tokens.specs.Byte.{kind_of}
use Rattle.ops_tokens.specs.Token.{Token, Barred, Bad}
use Rattle.ops_tokens.specs.Token as token
use Rattle.ops_tokens.specs.Word.{word_token, within_limit}

-- where a text has been cut: between tokens, in a comment, or behind a part of a word or of a barred symbol
pub data Scan : Type 0 where
  Between : Scan
  Comment : Scan
  Word : List ℕ → Scan
  Bars : List ℕ → Scan

-- the token that a byte of this kind is by itself
abbrev pub mark : ByteKind → List Token
mark Open = token.Open ∷ []
mark Close = token.Close ∷ []
mark OpenBrace = token.OpenBrace ∷ []
mark CloseBrace = token.CloseBrace ∷ []
mark Caret = token.Caret ∷ []
mark other = []

-- a barred symbol with this content
abbrev pub barred_token : List ℕ → Token
barred_token content = within_limit content (Barred content)

-- the tokens that are whole once a byte of this kind is read
abbrev pub made : Scan → ByteKind → List Token
made Between kind = mark kind
made Comment kind = []
made (Word word) Letter = []
made (Word word) kind = word_token word ∷ mark kind
made (Bars content) Bar = barred_token content ∷ []
made (Bars content) kind = []

-- what begins with a byte of this kind
abbrev pub begun : ByteKind → ℕ → Scan
begun Semicolon b = Comment
begun Bar b = Bars []
begun Letter b = Word (b ∷ [])
begun kind b = Between

-- where the text is cut behind the next byte
abbrev pub after : Scan → ByteKind → ℕ → Scan
after Between kind b = begun kind b
after Comment LineFeed b = Between
after Comment kind b = Comment
after (Word word) Letter b = Word (word ++ b ∷ [])
after (Word word) kind b = begun kind b
after (Bars content) Bar b = Between
after (Bars content) kind b = Bars (content ++ b ∷ [])

-- what the end of the text makes whole
abbrev pub at_end : Scan → List Token
at_end Between = []
at_end Comment = []
at_end (Word word) = word_token word ∷ []
at_end (Bars content) = Bad Unclosed ∷ []

-- the tokens of the rest of a text that was cut there
abbrev pub tokens : Scan → List ℕ → List Token
tokens scan [] = at_end scan
tokens scan (b ∷ bs) = made scan (kind_of b) ++ tokens (after scan (kind_of b) b) bs

-- the tokens of a text
abbrev pub tokens_of : List ℕ → List Token
tokens_of text = tokens Between text
