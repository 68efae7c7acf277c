-- The tokens of a text as data.
use Rattle.std.specs.Prelude.{ℕ, ℤ, List, Option}
use Rattle.rule_base.specs.declared.condition.Pred.{Pred}
use Rattle.ops_tokens.specs.declared.token.Keyword.{Keyword}
use Rattle.ops_tokens.specs.declared.token.LexicalFault.{LexicalFault}
use Rattle.ops_tokens.specs.declared.token.Token.{Token as Written}
use Rattle.ops_tokens.specs.declared.token.Token.TheVariants as written

pub data Token : Type 0 where
  Open : Token
  Close : Token
  OpenBrace : Token
  CloseBrace : Token
  Caret : Token
  Arrow : Token
  Minus : Token
  Slashes : Token
  OpenList : Token
  CloseList : Token
  Predicate : Pred → Token
  -- the bytes between the angle brackets
  Variable : List ℕ → Token
  Integer : ℤ → Token
  -- the bytes of the word, and which keyword it is
  Plain : List ℕ → Option Keyword → Token
  -- the bytes between the bars
  Barred : List ℕ → Token
  -- a token that no text of the grammar has
  Bad : LexicalFault → Token

-- a token of the code, with the bytes that it points to
abbrev pub seen : Written → Token
seen written.Open = Open
seen written.Close = Close
seen written.OpenBrace = OpenBrace
seen written.CloseBrace = CloseBrace
seen written.Caret = Caret
seen written.Arrow = Arrow
seen written.Minus = Minus
seen written.Slashes = Slashes
seen written.OpenList = OpenList
seen written.CloseList = CloseList
seen (written.Predicate p) = Predicate p
seen (written.Variable name) = Variable name.now
seen (written.Integer z) = Integer z
seen (written.Plain word keyword) = Plain word.now keyword
seen (written.Barred content) = Barred content.now
seen (written.Bad fault) = Bad fault
