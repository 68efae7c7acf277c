-- The kind of a refused token, by the slot of what has been read.
use Rattle.std.proofs.Common.{◌≡◌, ◌⊎◌, inl, inr, ℕ, ℤ, Bool, true, false, ◌&&◌, cond, List, [], ◌∷◌, ◌++◌, Option, Some, refl, sym, ap, ◌∙◌, subst}
use Rattle.ops_text.specs.Names.{Names}
use Rattle.ops_tokens.specs.declared.token.Keyword.{Keyword}
use Rattle.ops_tokens.specs.declared.token.Keyword.TheVariants as a_keyword
use Rattle.ops_tokens.specs.declared.token.LexicalFault.{LexicalFault}
use Rattle.ops_tokens.specs.declared.token.LexicalFault.TheVariants as fault
use Rattle.ops_reader.specs.declared.refusal.SyntaxKind.{SyntaxKind}
use Rattle.ops_reader.specs.declared.refusal.SyntaxKind.TheVariants.{Unexpected, NotInProfile}
use Rattle.ops_reader.specs.declared.slot.Slot.{Slot}
use Rattle.ops_reader.specs.declared.slot.Slot.TheVariants as slot
use Rattle.ops_tokens.specs.Token.{Token, Open, Close, Slashes, Integer, Plain, Bad}
use Rattle.ops_reader.specs.LeftOut.{is_left_out}
use Rattle.ops_reader.specs.Refusal.{MayStand, IsHead, TakesConstant, TakesOperand, IsLeftOutWord, IsQuote, IsEmptyBind, IsTooDeep, IsOutOfRange, kind_of_fault, HasFault, IsOfKind}
use Rattle.ops_reader.specs.FormReading.{form_after}
use Rattle.ops_reader.specs.Reading.{Read}
use Rattle.ops_reader.specs.Slot.{form_slot}
use Rattle.ops_reader.specs.Kind.{kind_at}
use Rattle.ops_reader.proofs.Fits.{may, a_symbol, zero_token, IfPart, Says, OperatorMay, NoOperatorMay, IsOpened, Fits}

-- whether a token is taken by what has been read
abbrev pub takes : Read → Token → Bool
takes read = may form_after read.names read.part

-- what is known where these tokens have been read
pub record Stands (names : Names) (front : List Token) (read : Read) : Type 0 where
  pub fits : Fits form_slot form_after read.names read.part
  -- a token may stand next exactly where it is taken
  pub taken : (token : Token) → MayStand names front token → takes read token ≡ true
  pub may_stand : (token : Token) → takes read token ≡ true → MayStand names front token
  pub operator : takes read zero_token ≡ true → IfPart (form_after read.names read.part zero_token) (OperatorMay form_after)
      → (word : List ℕ) × MayStand names (front ++ zero_token ∷ []) (Plain word (Some a_keyword.Star))
  pub no_operator : IfPart (form_after read.names read.part zero_token) (NoOperatorMay form_after)
      → (word : List ℕ) → MayStand names (front ++ zero_token ∷ []) (Plain word (Some a_keyword.Star)) → ⊥
  -- a head stands behind a bracket, and the value of a `bind` behind a bracket, `bind` and a variable
  pub bracket : form_slot read.part ≡ slot.Head → (before : List Token) × (front ≡ before ++ Open ∷ [])
  pub opened : (before : List Token) → front ≡ before ++ Open ∷ [] → IsOpened form_slot form_after read.names read.part
  pub bind : form_slot read.part ≡ slot.BindValue → IsEmptyBind front Close
  pub bound : IsEmptyBind front Close → form_slot read.part ≡ slot.BindValue

no_other_kind : (names : Names) (front : List Token) (token : Token)
    → ((kind : SyntaxKind) → ¬ HasFault token kind) → ¬ IsOutOfRange names front token → ¬ IsTooDeep names front token
    → ¬ IsLeftOutWord names front token → ¬ IsQuote names front token → ¬ IsEmptyBind front token → IsOfKind names front token Unexpected
no_other_kind names front token fault range deep left_out quote bind = (fault, range, deep, left_out, quote, bind)

-- what the slot says, by its name
says_at : (names : Names) (front : List Token) (read : Read) (s : Slot) → Stands names front read → form_slot read.part ≡ s → Says s (takes read)
says_at names front read s h e = subst (λ t. Says t (takes read)) e h.fits.says

is_head : (names : Names) (front : List Token) (read : Read) → Stands names front read → form_slot read.part ≡ slot.Head → IsHead names front
is_head names front read h e =
    let end = h.bracket e in
    let says = says_at names front read slot.Head h e in
    record {
      before = end.0;
      behind_bracket = end.1;
      word = [];
      key = says.0.0;
      begins = h.may_stand (Plain [] (Some says.0.0)) says.0.1;
      no_symbol = λ stands. absurd (cc (h.taken a_symbol stands, says.1));
    }

head_slot : (names : Names) (front : List Token) (read : Read) → Stands names front read → IsHead names front → form_slot read.part ≡ slot.Head
head_slot names front read h head = by_case (h.opened head.before head.behind_bracket)
  where
    by_case : IsOpened form_slot form_after read.names read.part → form_slot read.part ≡ slot.Head
    by_case (inl e) = e
    by_case (inr (inl symbol)) = absurd (head.no_symbol (h.may_stand a_symbol symbol))
    by_case (inr (inr none)) =
        let word = h.taken (Plain head.word (Some head.key)) head.begins in
        let no_word = none head.word head.key in
        absurd (cc (word, no_word))

no_constant : (names : Names) (front : List Token) (read : Read) → Stands names front read → (takes read a_symbol && takes read zero_token) ≡ false → ¬ TakesConstant names front
no_constant names front read h none both =
    let symbol = h.taken a_symbol both.0 in
    let zero = h.taken zero_token both.1 in
    let all : (takes read a_symbol && takes read zero_token) ≡ true = ap (λ b. b && takes read zero_token) symbol ∙ zero in
    cc (all, none)

and_no_symbol : (a b : Bool) → a ≡ false → (a && b) ≡ false
and_no_symbol true b h = absurd (cc)
and_no_symbol false b h = refl

-- a fault of the token itself
fault_kind : (names : Names) (front : List Token) (f : LexicalFault) → IsOfKind names front (Bad f) (kind_of_fault f)
fault_kind names front fault.Unclosed = refl
fault_kind names front fault.BadNumeral = inl refl
fault_kind names front fault.LongSymbol = refl
fault_kind names front fault.NotInProfile = inl refl

word_kind : (names : Names) (front : List Token) (read : Read) (word : List ℕ) (key : Option Keyword) → Stands names front read
    → (s : Slot) → form_slot read.part ≡ s → IsOfKind names front (Plain word key) (kind_at s (Plain word key))
word_kind names front read word key h slot.Head e = by_word (is_left_out word) refl
  where
    by_word : (v : Bool) → is_left_out word ≡ v → IsOfKind names front (Plain word key) (cond v NotInProfile Unexpected)
    by_word true left = inr (inl (left, is_head names front read h e))
    by_word false left = no_other_kind names front (Plain word key) (λ k x. x) (λ x. x) (λ x. x) (λ x. cc (x.0, left)) (λ x. x) (λ x. x)
word_kind names front read word key h s e =
    no_other_kind names front (Plain word key) (λ k x. x) (λ x. x) (λ x. x) (λ x. cc (head_slot names front read h x.1, e)) (λ x. x) (λ x. x)

slashes_kind : (names : Names) (front : List Token) (read : Read) → Stands names front read
    → (s : Slot) → form_slot read.part ≡ s → IsOfKind names front Slashes (kind_at s Slashes)
slashes_kind names front read h s e = by_slot s e (says_at names front read s h e)
  where
    unquoted : (t : Slot) → form_slot read.part ≡ t → ¬ (t ≡ slot.Head) → (takes read a_symbol && takes read zero_token) ≡ false → IsOfKind names front Slashes Unexpected
    unquoted t is other none = no_other_kind names front Slashes (λ k x. x) (λ x. x) (λ x. x) (λ x. x) no_quote (λ x. x)
      where
        no_quote : ¬ IsQuote names front Slashes
        no_quote (inl head) = other (sym is ∙ head_slot names front read h head)
        no_quote (inr constant) = no_constant names front read h none constant

    by_slot : (t : Slot) → form_slot read.part ≡ t → Says t (takes read) → IsOfKind names front Slashes (kind_at t Slashes)
    by_slot slot.Head is says = inr (inr (inl (inl (is_head names front read h is))))
    by_slot slot.Constant is says = inr (inr (inl (inr (h.may_stand a_symbol says.0, h.may_stand zero_token says.1))))
    by_slot slot.BindValue is says = inr (inr (inl (inr (h.may_stand a_symbol says.0, h.may_stand zero_token says.1))))
    by_slot slot.Operand is says = unquoted slot.Operand is (λ x. cc (x)) (and_no_symbol (takes read a_symbol) (takes read zero_token) says)
    by_slot slot.Number is says = unquoted slot.Number is (λ x. cc (x)) (and_no_symbol (takes read a_symbol) (takes read zero_token) says.0)
    by_slot slot.Other is says = unquoted slot.Other is (λ x. cc (x)) says

close_kind : (names : Names) (front : List Token) (read : Read) → Stands names front read
    → (s : Slot) → form_slot read.part ≡ s → IsOfKind names front Close (kind_at s Close)
close_kind names front read h slot.BindValue e = inr (inr (inr (h.bind e)))
close_kind names front read h s e =
    no_other_kind names front Close (λ k x. x) (λ x. x) (λ x. x) (λ x. x) (λ x. x) (λ x. cc (h.bound x, e))

open_kind : (names : Names) (front : List Token) (read : Read) → Stands names front read
    → (s : Slot) → form_slot read.part ≡ s → IsOfKind names front Open (kind_at s Open)
open_kind names front read h slot.Operand e =
    let says = says_at names front read slot.Operand h e in
    let zero = h.fits.operand e in
    record { no_symbol = λ stands. absurd (cc (h.taken a_symbol stands, says)); operator = h.operator zero.0 zero.1 }
open_kind names front read h s e = no_other_kind names front Open (λ k x. x) (λ x. x) (λ x. none x h.fits.no_operand) (λ x. x) (λ x. x) (λ x. x)
  where
    none : TakesOperand names front
        → (form_slot read.part ≡ slot.Operand) ⊎ (takes read a_symbol ≡ true) ⊎ IfPart (form_after read.names read.part zero_token) (NoOperatorMay form_after) → ⊥
    none x (inl is) = cc (is, e)
    none x (inr (inl symbol)) = x.no_symbol (h.may_stand a_symbol symbol)
    none x (inr (inr none_may)) = h.no_operator none_may x.operator.0 x.operator.1

integer_kind : (names : Names) (front : List Token) (read : Read) (z : ℤ) → Stands names front read → takes read (Integer z) ≡ false
    → (s : Slot) → form_slot read.part ≡ s → IsOfKind names front (Integer z) (kind_at s (Integer z))
integer_kind names front read z h refused slot.Number e = inr (h.may_stand zero_token (says_at names front read slot.Number h e).1)
integer_kind names front read z h refused s e =
    no_other_kind names front (Integer z) (λ k x. x) (λ x. none x h.fits.alike) (λ x. x) (λ x. x) (λ x. x) (λ x. x)
  where
    none : MayStand names front zero_token → (form_slot read.part ≡ slot.Number) ⊎ ((y : ℤ) → takes read zero_token ≡ takes read (Integer y)) → ⊥
    none x (inl is) = cc (is, e)
    none x (inr alike) =
        let zero = h.taken zero_token x in
        let same = alike z in
        cc (zero, same, refused)

pub kind_is_right : (names : Names) (front : List Token) (read : Read) (token : Token) → Stands names front read → takes read token ≡ false
    → IsOfKind names front token (kind_at (form_slot read.part) token)
kind_is_right names front read (Bad f) h refused = fault_kind names front f
kind_is_right names front read (Plain word key) h refused = word_kind names front read word key h (form_slot read.part) refl
kind_is_right names front read Slashes h refused = slashes_kind names front read h (form_slot read.part) refl
kind_is_right names front read Close h refused = close_kind names front read h (form_slot read.part) refl
kind_is_right names front read Open h refused = open_kind names front read h (form_slot read.part) refl
kind_is_right names front read (Integer z) h refused = integer_kind names front read z h refused (form_slot read.part) refl
kind_is_right names front read token h refused = no_other_kind names front token (λ k x. x) (λ x. x) (λ x. x) (λ x. x) (λ x. x) (λ x. x)
