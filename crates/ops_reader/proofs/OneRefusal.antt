-- A text is refused at one place for one reason, and a text of forms nowhere.
use Rattle.std.proofs.Common.{◌≡◌, ◌⊎◌, inl, inr, ℕ, zero, suc, ◌<◌, ◌≤◌, List, [], ◌∷◌, ◌++◌, take, Some, refl, sym, ap, ◌∙◌, append_assoc, append-nil, arith, subst}
use Rattle.std.specs.List.{slice_get}
use Rattle.std.proofs.lemmas.Bool.{cases_lt}
use Rattle.std.proofs.lemmas.Option.{same_Some}
use Rattle.ops_text.specs.Names.{Names}
use Rattle.ops_reader.specs.declared.form.Form.{Form}
use Rattle.ops_reader.specs.declared.refusal.SyntaxKind.{SyntaxKind}
use Rattle.ops_reader.specs.declared.refusal.SyntaxKind.TheVariants.{Unclosed, Unexpected, BadNumeral, LongSymbol, TooDeep, NotInProfile}
use Rattle.ops_tokens.specs.Token.{Token, Open, Close, Slashes, Integer, Plain, Bad}
use Rattle.ops_tokens.specs.Tokens.{tokens_of}
use Rattle.ops_tokens.specs.Places.{places_of}
use Rattle.ops_reader.specs.Grammar.{IsText}
use Rattle.ops_reader.specs.Refusal.{BeginsText, MayStand, IsLeftOutWord, IsQuote, IsEmptyBind, IsTooDeep, IsOutOfRange, kind_of_fault, HasFault, IsOfKind, IsWrongToken, IsRefusedAt}
use Rattle.ops_reader.specs.Decided.{SpellsForms, IsRefusedSomewhere}

-- the kind of what is wrong with a token by itself is told by the fault
fault_kind : (names : Names) (front : List Token) (f : _) (kind : SyntaxKind) → IsOfKind names front (Bad f) kind → kind ≡ kind_of_fault f
fault_kind names front f Unclosed h = h
fault_kind names front f Unexpected h = absurd (h.0 (kind_of_fault f) refl)
fault_kind names front f BadNumeral (inl h) = h
fault_kind names front f BadNumeral (inr h) = absurd h
fault_kind names front f LongSymbol h = h
fault_kind names front f TooDeep h = absurd h
fault_kind names front f NotInProfile (inl h) = h
fault_kind names front f NotInProfile (inr (inl h)) = absurd h
fault_kind names front f NotInProfile (inr (inr (inl h))) = absurd h
fault_kind names front f NotInProfile (inr (inr (inr h))) = absurd h

-- each other token may be wrong in one way of its own, and is else unexpected
abbrev own_kind : Token → SyntaxKind
own_kind Open = TooDeep
own_kind Close = NotInProfile
own_kind Slashes = NotInProfile
own_kind (Plain word key) = NotInProfile
own_kind (Integer z) = BadNumeral
own_kind token = Unexpected

abbrev IsWrongInItsWay : Names → List Token → Token → Type 0
IsWrongInItsWay names front Open = IsTooDeep names front Open
IsWrongInItsWay names front Close = IsEmptyBind front Close
IsWrongInItsWay names front Slashes = IsQuote names front Slashes
IsWrongInItsWay names front (Plain word key) = IsLeftOutWord names front (Plain word key)
IsWrongInItsWay names front (Integer z) = IsOutOfRange names front (Integer z)
IsWrongInItsWay names front token = ⊥

abbrev IsOneOfTwo : Names → List Token → Token → SyntaxKind → Type 0
IsOneOfTwo names front token kind = ((kind ≡ own_kind token) × IsWrongInItsWay names front token) ⊎ ((kind ≡ Unexpected) × ¬ IsWrongInItsWay names front token)

abbrev IsBad : Token → Type 0
IsBad (Bad f) = Unit {0}
IsBad token = ⊥

not_in_profile : (names : Names) (front : List Token) (token : Token) → ¬ IsBad token → IsOfKind names front token NotInProfile → IsOneOfTwo names front token NotInProfile
not_in_profile names front (Bad f) good h = absurd (good tt)
not_in_profile names front Slashes good (inr (inr (inl h))) = inl (refl, h)
not_in_profile names front Close good (inr (inr (inr h))) = inl (refl, h)
not_in_profile names front (Plain word key) good (inr (inl h)) = inl (refl, h)
not_in_profile names front token good (inl h) = absurd h
not_in_profile names front token good (inr (inl h)) = absurd h
not_in_profile names front token good (inr (inr (inl h))) = absurd h
not_in_profile names front token good (inr (inr (inr h))) = absurd h

bad_numeral : (names : Names) (front : List Token) (token : Token) → ¬ IsBad token → IsOfKind names front token BadNumeral → IsOneOfTwo names front token BadNumeral
bad_numeral names front (Bad f) good h = absurd (good tt)
bad_numeral names front (Integer z) good (inr h) = inl (refl, h)
bad_numeral names front token good (inl h) = absurd h
bad_numeral names front token good (inr h) = absurd h

too_deep : (names : Names) (front : List Token) (token : Token) → IsOfKind names front token TooDeep → IsOneOfTwo names front token TooDeep
too_deep names front Open h = inl (refl, h)
too_deep names front token h = absurd h

unexpected : (names : Names) (front : List Token) (token : Token) → IsOfKind names front token Unexpected → IsOneOfTwo names front token Unexpected
unexpected names front Open h = inr (refl, h.2)
unexpected names front Close h = inr (refl, h.5)
unexpected names front Slashes h = inr (refl, h.4)
unexpected names front (Plain word key) h = inr (refl, h.3)
unexpected names front (Integer z) h = inr (refl, h.1)
unexpected names front token h = inr (refl, λ x. x)

no_fault : (token : Token) (kind : SyntaxKind) → ¬ IsBad token → HasFault token kind → ⊥
no_fault (Bad f) kind good h = good tt
no_fault token kind good h = h

kind_is : (names : Names) (front : List Token) (token : Token) (kind : SyntaxKind) → ¬ IsBad token → IsOfKind names front token kind → IsOneOfTwo names front token kind
kind_is names front token Unclosed good h = absurd (no_fault token Unclosed good h)
kind_is names front token Unexpected good h = unexpected names front token h
kind_is names front token BadNumeral good h = bad_numeral names front token good h
kind_is names front token LongSymbol good h = absurd (no_fault token LongSymbol good h)
kind_is names front token TooDeep good h = too_deep names front token h
kind_is names front token NotInProfile good h = not_in_profile names front token good h

two_ways : (names : Names) (front : List Token) (token : Token) (kind why : SyntaxKind) → IsOneOfTwo names front token kind → IsOneOfTwo names front token why → kind ≡ why
two_ways names front token kind why (inl h) (inl k) = h.0 ∙ sym k.0
two_ways names front token kind why (inl h) (inr k) = absurd (k.1 h.1)
two_ways names front token kind why (inr h) (inl k) = absurd (h.1 k.1)
two_ways names front token kind why (inr h) (inr k) = h.0 ∙ sym k.0

pub one_kind : (names : Names) (front : List Token) (token : Token) (kind why : SyntaxKind) → IsOfKind names front token kind → IsOfKind names front token why → kind ≡ why
one_kind names front (Bad f) kind why h k = fault_kind names front f kind h ∙ sym (fault_kind names front f why k)
one_kind names front token kind why h k =
    two_ways names front token kind why (kind_is names front token kind (λ x. x) h) (kind_is names front token why (λ x. x) k)

-- the front of what begins a text begins a text
pub begins_before : (names : Names) (front back : List Token) → BeginsText names (front ++ back) → BeginsText names front
begins_before names front back (forms, more, after, h) = (forms, back ++ more, after, rw (← append_assoc) h)

-- tokens up to a later one
up_to_later : (tokens : List Token) (m n : ℕ) (token : Token) → slice_get tokens m ≡ Some token → m < n → (back : List Token) × (take n tokens ≡ (take m tokens ++ token ∷ []) ++ back)
up_to_later [] m n token at less = absurd (cc)
up_to_later (x ∷ xs) zero zero token at less = absurd (omega arith)
up_to_later (x ∷ xs) zero (suc n) token at less = (take n xs, ap (λ t. t ∷ take n xs) (same_Some x token at))
up_to_later (x ∷ xs) (suc m) zero token at less = absurd (omega arith)
up_to_later (x ∷ xs) (suc m) (suc n) token at less =
    let r = up_to_later xs m n token at (omega arith) in
    (r.0, ap (λ l. x ∷ l) r.1)

whole_behind : (tokens : List Token) (m : ℕ) (token : Token) → slice_get tokens m ≡ Some token → (back : List Token) × (tokens ≡ (take m tokens ++ token ∷ []) ++ back)
whole_behind [] m token at = absurd (cc)
whole_behind (x ∷ xs) zero token at = (xs, ap (λ t. t ∷ xs) (same_Some x token at))
whole_behind (x ∷ xs) (suc m) token at =
    let r = whole_behind xs m token at in
    (r.0, ap (λ l. x ∷ l) r.1)

-- a wrong token stands in no text, nor in what begins one
wrong_before : (names : Names) (tokens : List Token) (m n : ℕ) (token : Token) → slice_get tokens m ≡ Some token → ¬ MayStand names (take m tokens) token → BeginsText names (take n tokens) → n ≤ m
wrong_before names tokens m n token at wrong begins = by_order (cases_lt m n)
  where
    by_order : (m < n) ⊎ (n ≤ m) → n ≤ m
    by_order (inr h) = h
    by_order (inl h) =
        let r = up_to_later tokens m n token at h in
        absurd (wrong (begins_before names (take m tokens ++ token ∷ []) r.0 (subst (BeginsText names) r.1 begins)))

wrong_in_none : (names : Names) (tokens : List Token) (m : ℕ) (token : Token) → slice_get tokens m ≡ Some token → ¬ MayStand names (take m tokens) token → ¬ BeginsText names tokens
wrong_in_none names tokens m token at wrong begins =
    let r = whole_behind tokens m token at in
    wrong (begins_before names (take m tokens ++ token ∷ []) r.0 (subst (BeginsText names) r.1 begins))

text_begins : (names : Names) (forms : List Form) (tokens : List Token) (after : Names) → IsText names forms tokens after → BeginsText names tokens
text_begins names forms tokens after h = (forms, [], after, rw append-nil h)

pub not_both : (names : Names) (text : List ℕ) → SpellsForms names text → ¬ IsRefusedSomewhere names text
not_both names text (forms, after, h) (at, kind, inl w) = wrong_in_none names (tokens_of text) w.number w.token w.stands w.wrong (text_begins names forms (tokens_of text) after h)
not_both names text (forms, after, h) (at, kind, inr e) = e.no_text forms after h

same_token : (names : Names) (text : List ℕ) (at other : ℕ) (kind why : SyntaxKind) (w : IsWrongToken names text at kind) (v : IsWrongToken names text other why)
    → w.number ≡ v.number → (at ≡ other) × (kind ≡ why)
same_token names text at other kind why w v e =
    let tokens = tokens_of text in
    let place : slice_get (places_of text) v.number ≡ Some at = subst (λ (n : ℕ). slice_get (places_of text) n ≡ Some at) e w.place in
    let stands : slice_get tokens v.number ≡ Some w.token = subst (λ (n : ℕ). slice_get tokens n ≡ Some w.token) e w.stands in
    let of_kind : IsOfKind names (take v.number tokens) w.token kind = subst (λ (n : ℕ). IsOfKind names (take n tokens) w.token kind) e w.of_kind in
    let token : w.token ≡ v.token = same_Some w.token v.token (sym stands ∙ v.stands) in
    let same_kind : IsOfKind names (take v.number tokens) v.token kind = subst (λ (t : Token). IsOfKind names (take v.number tokens) t kind) token of_kind in
    (same_Some at other (sym place ∙ v.place), one_kind names (take v.number tokens) v.token kind why same_kind v.of_kind)

pub one_refusal : (names : Names) (text : List ℕ) (at other : ℕ) (kind why : SyntaxKind) → IsRefusedAt names text at kind → IsRefusedAt names text other why → (at ≡ other) × (kind ≡ why)
one_refusal names text at other kind why (inl w) (inl v) =
    let tokens = tokens_of text in
    let first : v.number ≤ w.number = wrong_before names tokens w.number v.number w.token w.stands w.wrong v.begins in
    let second : w.number ≤ v.number = wrong_before names tokens v.number w.number v.token v.stands v.wrong w.begins in
    same_token names text at other kind why w v (omega arith)
one_refusal names text at other kind why (inl w) (inr e) = absurd (wrong_in_none names (tokens_of text) w.number w.token w.stands w.wrong e.begins)
one_refusal names text at other kind why (inr e) (inl w) = absurd (wrong_in_none names (tokens_of text) w.number w.token w.stands w.wrong e.begins)
one_refusal names text at other kind why (inr e) (inr f) = (e.place ∙ sym f.place, e.unclosed ∙ sym f.unclosed)
