-- Why a text is refused: the place and the kind of the first token with which no text of the grammar goes on, or its end.
use Rattle.std.specs.Prelude.{◌≡◌, ◌⊎◌, ℕ, pos, true, List, [], ◌∷◌, ◌++◌, Some, length, take, slice_get}
use Rattle.ops_text.specs.Names.{Names}
use Rattle.ops_tokens.specs.declared.token.Keyword.{Keyword}
use Rattle.ops_tokens.specs.declared.token.Keyword.TheVariants as a_keyword
use Rattle.ops_tokens.specs.declared.token.LexicalFault.{LexicalFault}
use Rattle.ops_tokens.specs.declared.token.LexicalFault.TheVariants as fault
use Rattle.ops_reader.specs.declared.form.Form.{Form}
use Rattle.ops_reader.specs.declared.refusal.SyntaxKind.{SyntaxKind}
use Rattle.ops_reader.specs.declared.refusal.SyntaxKind.TheVariants.{Unclosed, Unexpected, BadNumeral, LongSymbol, TooDeep, NotInProfile}
use Rattle.ops_tokens.specs.Token.{Token, Open, Close, Slashes, Variable, Integer, Plain, Barred, Bad}
use Rattle.ops_tokens.specs.Tokens.{tokens_of}
use Rattle.ops_tokens.specs.Places.{places_of}
use Rattle.ops_reader.specs.LeftOut.{is_left_out}
use Rattle.ops_reader.specs.Grammar.{IsText}

-- some text of the grammar begins with these tokens
abbrev pub BeginsText : Names → List Token → Type 0
BeginsText names tokens = (forms : List Form) × (more : List Token) × (after : Names) × IsText names forms (tokens ++ more) after

-- the token may stand behind these: a text may begin so
abbrev pub MayStand : Names → List Token → Token → Type 0
MayStand names front token = BeginsText names (front ++ token ∷ [])

-- behind a bracket a word of the grammar may stand, and not any symbol: a form, an action, a value or an item begins there
pub record IsHead (names : Names) (front : List Token) : Type 0 where
  pub before : List Token
  pub behind_bracket : front ≡ before ++ Open ∷ []
  pub word : List ℕ
  pub key : Keyword
  pub begins : MayStand names front (Plain word (Some key))
  pub no_symbol : ¬ MayStand names front (Barred [])

-- a constant may stand there: a symbol, and an integer too
abbrev pub TakesConstant : Names → List Token → Type 0
TakesConstant names front = MayStand names front (Barred []) × MayStand names front (Integer (pos 0))

-- an operand may stand there: an integer, and an operator behind it, but no symbol
pub record TakesOperand (names : Names) (front : List Token) : Type 0 where
  pub no_symbol : ¬ MayStand names front (Barred [])
  pub operator : (word : List ℕ) × MayStand names (front ++ Integer (pos 0) ∷ []) (Plain word (Some a_keyword.Star))

-- a word that is left out, at a head
abbrev pub IsLeftOutWord : Names → List Token → Token → Type 0
IsLeftOutWord names front (Plain word key) = (is_left_out word ≡ true) × IsHead names front
IsLeftOutWord names front other = ⊥

-- the quoting word, at a head or where a constant, a literal or a value may stand
abbrev pub IsQuote : Names → List Token → Token → Type 0
IsQuote names front Slashes = IsHead names front ⊎ TakesConstant names front
IsQuote names front other = ⊥

-- the end of a `bind` that has a variable and no value
abbrev pub IsEmptyBind : List Token → Token → Type 0
IsEmptyBind front Close =
    (before : List Token) × (word : List ℕ) × (name : List ℕ)
    × (front ≡ before ++ Open ∷ Plain word (Some a_keyword.Bind) ∷ Variable name ∷ [])
IsEmptyBind front other = ⊥

-- a parenthesis that would be one too many in one another
abbrev pub IsTooDeep : Names → List Token → Token → Type 0
IsTooDeep names front Open = TakesOperand names front
IsTooDeep names front other = ⊥

-- an integer that is too large or too small for its place, where 0 may stand
abbrev pub IsOutOfRange : Names → List Token → Token → Type 0
IsOutOfRange names front (Integer z) = MayStand names front (Integer (pos 0))
IsOutOfRange names front other = ⊥

-- the kind of what is wrong with a token by itself
abbrev pub kind_of_fault : LexicalFault → SyntaxKind
kind_of_fault fault.Unclosed = Unclosed
kind_of_fault fault.BadNumeral = BadNumeral
kind_of_fault fault.LongSymbol = LongSymbol
kind_of_fault fault.NotInProfile = NotInProfile

-- the token has a fault of this kind by itself
abbrev pub HasFault : Token → SyntaxKind → Type 0
HasFault (Bad f) kind = kind ≡ kind_of_fault f
HasFault other kind = ⊥

-- the kind of a token that may not stand behind these. A token that has none of the other kinds is unexpected
abbrev pub IsOfKind : Names → List Token → Token → SyntaxKind → Type 0
IsOfKind names front token Unclosed = HasFault token Unclosed
IsOfKind names front token LongSymbol = HasFault token LongSymbol
IsOfKind names front token BadNumeral = HasFault token BadNumeral ⊎ IsOutOfRange names front token
IsOfKind names front token TooDeep = IsTooDeep names front token
IsOfKind names front token NotInProfile =
    HasFault token NotInProfile ⊎ IsLeftOutWord names front token ⊎ IsQuote names front token ⊎ IsEmptyBind front token
IsOfKind names front token Unexpected =
    ((kind : SyntaxKind) → ¬ HasFault token kind) × ¬ IsOutOfRange names front token × ¬ IsTooDeep names front token
    × ¬ IsLeftOutWord names front token × ¬ IsQuote names front token × ¬ IsEmptyBind front token

-- the first wrong token of a text: those before it begin a text, and with it they don't
pub record IsWrongToken (names : Names) (text : List ℕ) (at : ℕ) (kind : SyntaxKind) : Type 0 where
  pub number : ℕ
  pub token : Token
  pub stands : slice_get (tokens_of text) number ≡ Some token
  pub place : slice_get (places_of text) number ≡ Some at
  pub begins : BeginsText names (take number (tokens_of text))
  pub wrong : ¬ MayStand names (take number (tokens_of text)) token
  pub of_kind : IsOfKind names (take number (tokens_of text)) token kind

-- a text that ends inside a form: it begins a text and is none
pub record EndsEarly (names : Names) (text : List ℕ) (at : ℕ) (kind : SyntaxKind) : Type 0 where
  pub unclosed : kind ≡ Unclosed
  pub place : at ≡ length text
  pub begins : BeginsText names (tokens_of text)
  pub no_text : (forms : List Form) (after : Names) → ¬ IsText names forms (tokens_of text) after

-- the text is refused at this byte for this reason
abbrev pub IsRefusedAt : Names → List ℕ → ℕ → SyntaxKind → Type 0
IsRefusedAt names text at kind = IsWrongToken names text at kind ⊎ EndsEarly names text at kind
