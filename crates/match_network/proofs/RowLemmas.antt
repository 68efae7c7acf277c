-- Rows and one place more: whether they are the same, living, matches, and where a place stands in them.
use Rattle.std.proofs.Common.{◌≡◌, ℕ, ◌<◌, ◌≤◌, ◌==◌, List, [], ◌∷◌, ◌++◌, Bool, true, false, not, ◌&&◌, ◌||◌, length, zero, suc, refl, ap, sym, ◌∙◌, arith, append_assoc}
use Rattle.std.proofs.lemmas.Bool.Decides.{Decides-and, Decides-eqb, Decides-like, same_from_decides}
use Rattle.std.proofs.lemmas.List.{append-nil, same_from_push}
use Rattle.std.proofs.lemmas.List.Folds.{list_all-append, list_any-append}
use Rattle.std.proofs.lemmas.Slice.Eq.{bytes_eq-Decides}
use Rattle.rule_base.specs.declared.element.Element.{Element}
use Rattle.rule_base.specs.Numbers.{has_number, same_numbers}
use Rattle.match_network.specs.Row.{Joins, extends, is_first, is_living, is_match, joins_after}

pub same_row : (row other : List ℕ) → same_numbers row other ≡ true → row ≡ other
same_row row other same = (bytes_eq-Decides row other).0 same

pub same_self : (row : List ℕ) → same_numbers row row ≡ true
same_self row = (bytes_eq-Decides row row).1 refl

-- two rows of one place more are the same where the rows and the places are
both_push : (row other : List ℕ) (place last : ℕ) → (row ≡ other) × (place ≡ last) → row ++ place ∷ [] ≡ other ++ last ∷ []
both_push row other place last same = ap (λ r. r ++ place ∷ []) same.0 ∙ ap (λ p. other ++ p ∷ []) same.1

pub same_numbers-push : (row other : List ℕ) (place last : ℕ) → same_numbers (row ++ place ∷ []) (other ++ last ∷ []) ≡ (same_numbers row other && (place == last))
same_numbers-push row other place last =
    same_from_decides (same_numbers (row ++ place ∷ []) (other ++ last ∷ [])) (same_numbers row other && (place == last)) (bytes_eq-Decides (row ++ place ∷ []) (other ++ last ∷ []))
    (Decides-like (same_numbers row other && (place == last)) (both_push row other place last) (same_from_push row other place last) (Decides-and (same_numbers row other) (place == last) (bytes_eq-Decides row other) (Decides-eqb place last)))

-- a row of some places is a row and its last place
pub last_of : (row : List ℕ) → 0 < length row → (init : List ℕ) × (last : ℕ) × (row ≡ init ++ last ∷ [])
last_of [] some = absurd (omega (arith, some))
last_of (place ∷ []) some = ([], place, refl)
last_of (place ∷ next ∷ row) some =
    let rest = last_of (next ∷ row) (omega arith) in
    (place ∷ rest.0, rest.1, ap (λ r. place ∷ r) rest.2)

and_true : (b : Bool) → (b && true) ≡ b
and_true true = refl
and_true false = refl

or_false : (b : Bool) → (b || false) ≡ b
or_false true = refl
or_false false = refl

pub is_living-push : (places row : List ℕ) (place : ℕ) → is_living places (row ++ place ∷ []) ≡ (is_living places row && has_number places place)
is_living-push places row place = list_all-append (has_number places) row (place ∷ []) ∙ ap (λ b. is_living places row && b) (and_true (has_number places place))

pub has_number-push : (row : List ℕ) (last place : ℕ) → has_number (row ++ last ∷ []) place ≡ (has_number row place || (last == place))
has_number-push row last place = list_any-append (λ n. n == place) row (last ∷ []) ∙ ap (λ b. has_number row place || b) (or_false (last == place))

-- the last place of a match joins the rest of it
and_assoc : (a b c : Bool) → (a && (b && c)) ≡ ((a && b) && c)
and_assoc true b c = refl
and_assoc false b c = refl

joins_after-push : (joins : Joins) (came : List Element) (before row : List ℕ) (place : ℕ) → joins_after joins came before (row ++ place ∷ []) ≡ (joins_after joins came before row && extends joins came (before ++ row) place)
joins_after-push joins came before [] place = and_true (extends joins came before place) ∙ ap (λ r. extends joins came r place) (sym (append-nil before))
joins_after-push joins came before (next ∷ row) place =
    ap (λ b. extends joins came before next && b) (joins_after-push joins came (before ++ next ∷ []) row place ∙ ap (λ r. joins_after joins came (before ++ next ∷ []) row && extends joins came r place) (append_assoc before (next ∷ []) row))
    ∙ and_assoc (extends joins came before next) (joins_after joins came (before ++ next ∷ []) row) (extends joins came (before ++ next ∷ row) place)

pub is_match-push : (joins : Joins) (came : List Element) (row : List ℕ) (place : ℕ) → is_match joins came (row ++ place ∷ []) ≡ (is_match joins came row && extends joins came row place)
is_match-push joins came row place = joins_after-push joins came [] row place

-- where a place stands first in a row of one place more
pub is_first-before : (place at last : ℕ) (row : List ℕ) → at < length row → is_first place at (row ++ last ∷ []) ≡ is_first place at row
is_first-before place at last [] within = absurd (omega (arith, within))
is_first-before place zero last (next ∷ row) within = refl
is_first-before place (suc at) last (next ∷ row) within = ap (λ b. not (next == place) && b) (is_first-before place at last row (omega (arith, within)))

not_or : (a b : Bool) (c : Bool) → (not a && (not b && c)) ≡ (not (a || b) && c)
not_or true b c = refl
not_or false b c = refl

pub is_first-last : (place at last : ℕ) (row : List ℕ) → length row ≡ at → is_first place at (row ++ last ∷ []) ≡ (not (has_number row place) && (last == place))
is_first-last place zero last [] is = refl
is_first-last place (suc at) last [] is = absurd (omega (arith, is))
is_first-last place zero last (next ∷ row) is = absurd (omega (arith, is))
is_first-last place (suc at) last (next ∷ row) is =
    ap (λ b. not (next == place) && b) (is_first-last place at last row (omega (arith, is))) ∙ not_or (next == place) (has_number row place) (last == place)

-- a place stands nowhere past the end of a row
pub is_first-past : (place at : ℕ) (row : List ℕ) → length row ≤ at → is_first place at row ≡ false
is_first-past place at [] past = refl
is_first-past place zero (next ∷ row) past = absurd (omega (arith, past))
is_first-past place (suc at) (next ∷ row) past = ap (λ b. not (next == place) && b) (is_first-past place at row (omega (arith, past))) ∙ and_false (not (next == place))
  where
    and_false : (b : Bool) → (b && false) ≡ false
    and_false true = refl
    and_false false = refl
