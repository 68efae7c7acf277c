-- What the slot of a part says of the tokens that may come next, and how it is said of a longer part round it.
use Rattle.std.proofs.Common.{◌≡◌, ◌⊎◌, inl, inr, ℕ, pos, Bool, true, false, ◌&&◌, List, [], Some, None, ℤ, refl, sym, ap, ◌∙◌, subst}
use Rattle.std.specs.Option.{is_some}
use Rattle.ops_text.specs.Names.{Names}
use Rattle.ops_tokens.specs.declared.token.Keyword.{Keyword}
use Rattle.ops_tokens.specs.declared.token.Keyword.TheVariants as a_keyword
use Rattle.ops_reader.specs.declared.part.Step.{Step}
use Rattle.ops_reader.specs.declared.part.Step.TheVariants.{Part, Whole}
use Rattle.ops_reader.specs.declared.slot.Slot.{Slot}
use Rattle.ops_reader.specs.declared.slot.Slot.TheVariants as slot
use Rattle.ops_tokens.specs.Token.{Token, Open, Variable, Integer, Plain, Barred}
use Rattle.ops_reader.specs.Taken.{Taken, around}

-- what one more token makes of a part
abbrev pub After : Type 0 → Type 0 → Type 0
After P V = Names → P → Token → Taken (Step P V)

-- whether a token may come next
abbrev pub may : {P V : Type 0} → After P V → Names → P → Token → Bool
may after names part token = is_some (after names part token)

-- a symbol, and an integer
abbrev pub a_symbol : Token
a_symbol = Barred []

abbrev pub zero_token : Token
zero_token = Integer (pos 0)

-- what a token makes is no whole, and if it is a part, this is so of it
abbrev pub IfPart : {P V : Type 0} → Taken (Step P V) → (Names → P → Type 0) → Type 0
IfPart None fact = Unit {0}
IfPart (Some (names, Part part)) fact = fact names part
IfPart (Some (names, Whole value)) fact = ⊥

-- what a slot says of single tokens
abbrev pub Says : Slot → (Token → Bool) → Type 0
Says slot.Head may = ((key : Keyword) × (may (Plain [] (Some key)) ≡ true)) × (may a_symbol ≡ false)
Says slot.Constant may = (may a_symbol ≡ true) × (may zero_token ≡ true)
Says slot.BindValue may = (may a_symbol ≡ true) × (may zero_token ≡ true)
Says slot.Operand may = may a_symbol ≡ false
Says slot.Number may = (may a_symbol ≡ false) × (may zero_token ≡ true)
Says slot.Other may = (may a_symbol && may zero_token) ≡ false

-- integers are taken alike
abbrev pub AreAlike : (Token → Bool) → Type 0
AreAlike may = (z : ℤ) → may zero_token ≡ may (Integer z)

-- an operator may come next, or none
abbrev pub OperatorMay : {P V : Type 0} → After P V → Names → P → Type 0
OperatorMay after names part = may after names part (Plain [] (Some a_keyword.Star)) ≡ true

abbrev pub NoOperatorMay : {P V : Type 0} → After P V → Names → P → Type 0
NoOperatorMay after names part = (word : List ℕ) → may after names part (Plain word (Some a_keyword.Star)) ≡ false

-- behind a bracket: a head, or a symbol may come next, or no word of the grammar may
abbrev pub IsOpened : {P V : Type 0} → (P → Slot) → After P V → Names → P → Type 0
IsOpened slot_of after names part =
    (slot_of part ≡ slot.Head) ⊎ (may after names part a_symbol ≡ true) ⊎ ((word : List ℕ) (key : Keyword) → may after names part (Plain word (Some key)) ≡ false)

-- behind `bind`, a variable leads to the value of a `bind` or can't come next
abbrev pub LeadsToValue : {P V : Type 0} → (P → Slot) → After P V → Names → P → Type 0
LeadsToValue slot_of after names part = (name : List ℕ) → IfPart (after names part (Variable name)) (λ names part. slot_of part ≡ slot.BindValue)

abbrev pub LeadsToBind : {P V : Type 0} → (P → Slot) → After P V → Names → P → Type 0
LeadsToBind slot_of after names part = (word : List ℕ) → IfPart (after names part (Plain word (Some a_keyword.Bind))) (LeadsToValue slot_of after)

-- what the slot of a part says
pub record Fits {P V : Type 0} (slot_of : P → Slot) (after : After P V) (names : Names) (part : P) : Type 0 where
  pub says : Says (slot_of part) (may after names part)
  pub alike : (slot_of part ≡ slot.Number) ⊎ AreAlike (may after names part)
  pub operand : slot_of part ≡ slot.Operand → (may after names part zero_token ≡ true) × IfPart (after names part zero_token) (OperatorMay after)
  pub no_operand : (slot_of part ≡ slot.Operand) ⊎ (may after names part a_symbol ≡ true) ⊎ IfPart (after names part zero_token) (NoOperatorMay after)
  pub opened : IfPart (after names part Open) (IsOpened slot_of after)
  pub bound : IfPart (after names part Open) (LeadsToBind slot_of after)

-- the tokens of which a slot speaks
abbrev pub IsSpokenOf : Token → Type 0
IsSpokenOf Open = Unit {0}
IsSpokenOf (Variable name) = Unit {0}
IsSpokenOf (Integer z) = Unit {0}
IsSpokenOf (Plain word key) = Unit {0}
IsSpokenOf (Barred content) = Unit {0}
IsSpokenOf token = ⊥

-- these tokens make of a longer part what they make of the part within it
abbrev pub IsAround : {P V Q W : Type 0} → After P V → After Q W → (P → Q) → (V → Step Q W) → Type 0
IsAround inner outer context whole = (names : Names) (part : _) (token : Token) → IsSpokenOf token
    → outer names (context part) token ≡ around (λ p. Part (context p)) whole (inner names part token)

is_some_around : {P V Q W : Type 0} (longer : P → Step Q W) (whole : V → Step Q W) (taken : Taken (Step P V)) → is_some (around longer whole taken) ≡ is_some taken
is_some_around longer whole None = refl
is_some_around longer whole (Some x) = refl

if_part_around : {P V Q W : Type 0} (context : P → Q) (whole : V → Step Q W) (taken : Taken (Step P V)) (fact : Names → P → Type 0) (other : Names → Q → Type 0)
    → ((names : Names) (part : P) → fact names part → other names (context part)) → IfPart taken fact → IfPart (around (λ p. Part (context p)) whole taken) other
if_part_around context whole None fact other more h = tt
if_part_around context whole (Some (names, Part part)) fact other more h = more names part h
if_part_around context whole (Some (names, Whole value)) fact other more h = absurd h

-- a longer part round a part, with the same slot
pub record Around {P V Q W : Type 0} (slot_of : P → Slot) (inner : After P V) (outer_slot : Q → Slot) (outer : After Q W) : Type 0 where
  pub context : P → Q
  pub whole : V → Step Q W
  pub slots : (part : P) → outer_slot (context part) ≡ slot_of part
  pub same : IsAround inner outer context whole

may_same : {P V Q W : Type 0} (slot_of : P → Slot) (inner : After P V) (outer_slot : Q → Slot) (outer : After Q W) (c : Around slot_of inner outer_slot outer)
    → (names : Names) (part : P) (token : Token) → IsSpokenOf token → may outer names (c.context part) token ≡ may inner names part token
may_same slot_of inner outer_slot outer c names part token h =
    ap is_some (c.same names part token h) ∙ is_some_around (λ p. Part (c.context p)) c.whole (inner names part token)

if_part_same : {P V Q W : Type 0} (slot_of : P → Slot) (inner : After P V) (outer_slot : Q → Slot) (outer : After Q W) (c : Around slot_of inner outer_slot outer)
    → (names : Names) (part : P) (token : Token) → IsSpokenOf token → (fact : Names → P → Type 0) (other : Names → Q → Type 0)
    → ((names : Names) (part : P) → fact names part → other names (c.context part)) → IfPart (inner names part token) fact → IfPart (outer names (c.context part) token) other
if_part_same slot_of inner outer_slot outer c names part token spoken fact other more h =
    subst (λ t. IfPart t other) (sym (c.same names part token spoken)) (if_part_around c.context c.whole (inner names part token) fact other more h)

says_same : (s : Slot) (one other : Token → Bool) → other a_symbol ≡ one a_symbol → other zero_token ≡ one zero_token
    → ((key : Keyword) → other (Plain [] (Some key)) ≡ one (Plain [] (Some key))) → Says s one → Says s other
says_same slot.Head one other symbol zero word h = ((h.0.0, word h.0.0 ∙ h.0.1), symbol ∙ h.1)
says_same slot.Constant one other symbol zero word h = (symbol ∙ h.0, zero ∙ h.1)
says_same slot.BindValue one other symbol zero word h = (symbol ∙ h.0, zero ∙ h.1)
says_same slot.Operand one other symbol zero word h = symbol ∙ h
says_same slot.Number one other symbol zero word h = (symbol ∙ h.0, zero ∙ h.1)
says_same slot.Other one other symbol zero word h = ap (λ b. b && other zero_token) symbol ∙ ap (λ b. one a_symbol && b) zero ∙ h

opened_same : {P V Q W : Type 0} (slot_of : P → Slot) (inner : After P V) (outer_slot : Q → Slot) (outer : After Q W) (c : Around slot_of inner outer_slot outer)
    → (names : Names) (part : P) → IsOpened slot_of inner names part → IsOpened outer_slot outer names (c.context part)
opened_same slot_of inner outer_slot outer c names part (inl h) = inl (c.slots part ∙ h)
opened_same slot_of inner outer_slot outer c names part (inr (inl h)) = inr (inl (may_same slot_of inner outer_slot outer c names part a_symbol tt ∙ h))
opened_same slot_of inner outer_slot outer c names part (inr (inr h)) =
    inr (inr (λ word key. may_same slot_of inner outer_slot outer c names part (Plain word (Some key)) tt ∙ h word key))

to_value_same : {P V Q W : Type 0} (slot_of : P → Slot) (inner : After P V) (outer_slot : Q → Slot) (outer : After Q W) (c : Around slot_of inner outer_slot outer)
    → (names : Names) (part : P) → LeadsToValue slot_of inner names part → LeadsToValue outer_slot outer names (c.context part)
to_value_same slot_of inner outer_slot outer c names part h name =
    if_part_same slot_of inner outer_slot outer c names part (Variable name) tt (λ n p. slot_of p ≡ slot.BindValue) (λ n q. outer_slot q ≡ slot.BindValue)
    (λ n p e. c.slots p ∙ e) (h name)

to_bind_same : {P V Q W : Type 0} (slot_of : P → Slot) (inner : After P V) (outer_slot : Q → Slot) (outer : After Q W) (c : Around slot_of inner outer_slot outer)
    → (names : Names) (part : P) → LeadsToBind slot_of inner names part → LeadsToBind outer_slot outer names (c.context part)
to_bind_same slot_of inner outer_slot outer c names part h word =
    if_part_same slot_of inner outer_slot outer c names part (Plain word (Some a_keyword.Bind)) tt (LeadsToValue slot_of inner) (LeadsToValue outer_slot outer)
    (to_value_same slot_of inner outer_slot outer c) (h word)

alike_same : {P V Q W : Type 0} (slot_of : P → Slot) (inner : After P V) (outer_slot : Q → Slot) (outer : After Q W) (c : Around slot_of inner outer_slot outer)
    → (names : Names) (part : P) → (slot_of part ≡ slot.Number) ⊎ AreAlike (may inner names part)
    → (outer_slot (c.context part) ≡ slot.Number) ⊎ AreAlike (may outer names (c.context part))
alike_same slot_of inner outer_slot outer c names part (inl h) = inl (c.slots part ∙ h)
alike_same slot_of inner outer_slot outer c names part (inr h) =
    inr (λ z. may_same slot_of inner outer_slot outer c names part zero_token tt ∙ h z ∙ sym (may_same slot_of inner outer_slot outer c names part (Integer z) tt))

no_operand_same : {P V Q W : Type 0} (slot_of : P → Slot) (inner : After P V) (outer_slot : Q → Slot) (outer : After Q W) (c : Around slot_of inner outer_slot outer)
    → (names : Names) (part : P)
    → (slot_of part ≡ slot.Operand) ⊎ (may inner names part a_symbol ≡ true) ⊎ IfPart (inner names part zero_token) (NoOperatorMay inner)
    → (outer_slot (c.context part) ≡ slot.Operand) ⊎ (may outer names (c.context part) a_symbol ≡ true) ⊎ IfPart (outer names (c.context part) zero_token) (NoOperatorMay outer)
no_operand_same slot_of inner outer_slot outer c names part (inl h) = inl (c.slots part ∙ h)
no_operand_same slot_of inner outer_slot outer c names part (inr (inl h)) = inr (inl (may_same slot_of inner outer_slot outer c names part a_symbol tt ∙ h))
no_operand_same slot_of inner outer_slot outer c names part (inr (inr h)) =
    inr (inr (if_part_same slot_of inner outer_slot outer c names part zero_token tt (NoOperatorMay inner) (NoOperatorMay outer)
    (λ n p e word. may_same slot_of inner outer_slot outer c n p (Plain word (Some a_keyword.Star)) tt ∙ e word) h))

-- what the slot of a part says it says in a longer part too
pub lifted : {P V Q W : Type 0} (slot_of : P → Slot) (inner : After P V) (outer_slot : Q → Slot) (outer : After Q W) (c : Around slot_of inner outer_slot outer)
    → (names : Names) (part : P) → Fits slot_of inner names part → Fits outer_slot outer names (c.context part)
lifted slot_of inner outer_slot outer c names part h =
    let same = may_same slot_of inner outer_slot outer c names part in
    record {
      says =
          subst (λ s. Says s (may outer names (c.context part))) (sym (c.slots part))
          (says_same (slot_of part) (may inner names part) (may outer names (c.context part)) (same a_symbol tt) (same zero_token tt) (λ key. same (Plain [] (Some key)) tt) h.says);
      alike = alike_same slot_of inner outer_slot outer c names part h.alike;
      operand = λ e.
          let here = h.operand (sym (c.slots part) ∙ e) in (
            same zero_token tt ∙ here.0,
            if_part_same slot_of inner outer_slot outer c names part zero_token tt (OperatorMay inner) (OperatorMay outer)
                (λ n p g. may_same slot_of inner outer_slot outer c n p (Plain [] (Some a_keyword.Star)) tt ∙ g) here.1,
          );
      no_operand = no_operand_same slot_of inner outer_slot outer c names part h.no_operand;
      opened = if_part_same slot_of inner outer_slot outer c names part Open tt (IsOpened slot_of inner) (IsOpened outer_slot outer) (opened_same slot_of inner outer_slot outer c) h.opened;
      bound = if_part_same slot_of inner outer_slot outer c names part Open tt (LeadsToBind slot_of inner) (LeadsToBind outer_slot outer) (to_bind_same slot_of inner outer_slot outer c) h.bound;
    }
