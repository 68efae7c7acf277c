-- How phrases join: what one more token at the end makes of a phrase.
use Rattle.std.proofs.Common.{◌≡◌, List, [], ◌∷◌, ◌++◌, refl, sym, ap, ◌∙◌, append_assoc, append-nil}
use Rattle.ops_text.specs.Names.{Names}
use Rattle.ops_tokens.specs.Token.{Token}
use Rattle.ops_reader.specs.Grammar.{Phrase, nothing, ◌⨾◌, any}

-- whatever is the one phrase is the other
abbrev pub Implies : Phrase → Phrase → Type 0
Implies p q = (before : Names) (tokens : List Token) (after : Names) → p before tokens after → q before tokens after

-- one more token makes the second phrase of the first
abbrev pub Extends : Phrase → Names → Token → Names → Phrase → Type 0
Extends p names token after q = (before : Names) (tokens : List Token) → p before tokens names → q before (tokens ++ token ∷ []) after

pub then_one : (p q : Phrase) (names : Names) (token : Token) (after : Names) → q names (token ∷ []) after → Extends p names token after (p ⨾ q)
then_one p q names token after one before tokens h =
    record { front = tokens; back = token ∷ []; between = names; cut = refl; of_first = h; of_second = one }

pub within : (x p q : Phrase) (names : Names) (token : Token) (after : Names) → Extends p names token after q → Extends (x ⨾ p) names token after (x ⨾ q)
within x p q names token after e before tokens h = record {
  front = h.front;
  back = h.back ++ token ∷ [];
  between = h.between;
  cut = ap (λ l. l ++ token ∷ []) h.cut ∙ append_assoc h.front h.back (token ∷ []);
  of_first = h.of_first;
  of_second = e h.between h.back h.of_second;
}

pub from_nothing : (q : Phrase) (names : Names) (token : Token) (after : Names) → q names (token ∷ []) after → Extends nothing names token after q
from_nothing q names token after one before tokens h = rw (h.0, ← h.1) one

pub without_nothing : (p : Phrase) → Implies (p ⨾ nothing) p
without_nothing p before tokens after h =
    let e : tokens ≡ h.front = h.cut ∙ ap (λ l. h.front ++ l) h.of_second.0 ∙ append-nil h.front in
    rw (e, h.of_second.1) h.of_first

pub with_nothing : (p : Phrase) → Implies p (p ⨾ nothing)
with_nothing p before tokens after h =
    record { front = tokens; back = []; between = after; cut = sym (append-nil tokens); of_first = h; of_second = (refl, refl) }

pub any-push : {A : Type 0} (phrase : A → Phrase) (xs : List A) (x : A) (before : Names) (tokens : List Token) (between : Names) (more : List Token) (after : Names)
    → any phrase xs before tokens between → phrase x between more after → any phrase (xs ++ x ∷ []) before (tokens ++ more) after
any-push phrase [] x before tokens between more after h one = with_nothing (phrase x) before (tokens ++ more) after (rw (h.0, ← h.1) one)
any-push phrase (y ∷ ys) x before tokens between more after h one = record {
  front = h.front;
  back = h.back ++ more;
  between = h.between;
  cut = ap (λ l. l ++ more) h.cut ∙ append_assoc h.front h.back more;
  of_first = h.of_first;
  of_second = any-push phrase ys x h.between h.back between more after h.of_second one;
}

pub pushed : {A : Type 0} (x : Phrase) (phrase : A → Phrase) (xs : List A) (a : A) → Implies (x ⨾ any phrase xs ⨾ phrase a) (x ⨾ any phrase (xs ++ a ∷ []))
pushed x phrase xs a before tokens after h = record {
  front = h.of_first.front;
  back = h.of_first.back ++ h.back;
  between = h.of_first.between;
  cut = h.cut ∙ ap (λ l. l ++ h.back) h.of_first.cut ∙ append_assoc h.of_first.front h.of_first.back h.back;
  of_first = h.of_first.of_first;
  of_second = any-push phrase xs a h.of_first.between h.of_first.back h.between h.back after h.of_first.of_second h.of_second;
}

pub Extends-weaker : (p q r : Phrase) (names : Names) (token : Token) (after : Names) → Extends p names token after q → Implies q r → Extends p names token after r
Extends-weaker p q r names token after e weaker before tokens h = weaker before (tokens ++ token ∷ []) after (e before tokens h)

-- a list within a phrase gets its next element
pub then_element : {A : Type 0} (x : Phrase) (phrase : A → Phrase) (xs : List A) (a : A) (begun : Phrase) (names : Names) (token : Token) (after : Names)
    → Extends begun names token after (phrase a) → Extends (x ⨾ any phrase xs ⨾ begun) names token after (x ⨾ any phrase (xs ++ a ∷ []) ⨾ nothing)
then_element x phrase xs a begun names token after e =
    let q = x ⨾ any phrase (xs ++ a ∷ []) in
    Extends-weaker (x ⨾ any phrase xs ⨾ begun) (x ⨾ any phrase xs ⨾ phrase a) (q ⨾ nothing) names token after
    (within (x ⨾ any phrase xs) begun (phrase a) names token after e)
    (λ before tokens end h. with_nothing q before tokens end (pushed x phrase xs a before tokens end h))

-- a token behind a part that has not begun
pub then_last : (x q : Phrase) (names : Names) (token : Token) (after : Names) → q names (token ∷ []) after → Extends (x ⨾ nothing) names token after (x ⨾ q)
then_last x q names token after one before tokens h = then_one x q names token after one before tokens (without_nothing x before tokens names h)
