-- Names to which others are added: who has a number keeps it.
use Rattle.std.proofs.Common.{◌≡◌, ℕ, ◌<◌, ◌≤◌, Bool, true, false, cond, ◌||◌, List, [], ◌∷◌, ◌++◌, length, length-append, unwrap_or, refl, ap, ◌∙◌, arith}
use Rattle.std.specs.List.{list_any}
use Rattle.std.specs.Str.{bytes_eq}
use Rattle.std.proofs.lemmas.Slice.Eq.{bytes_eq-Decides}
use Rattle.ops_text.specs.Names.{Names, number_of, with_name}
use Rattle.ops_text.proofs.NamesLemmas.{slice_get-number_of}
use Rattle.form_printer.specs.CanonicalValues.{name_at}

-- the name has a number
abbrev pub IsKnown : Names → List ℕ → Type 0
IsKnown names name = list_any (bytes_eq name) names ≡ true

-- whatever has a number keeps it
pub record IsGrown (old new : Names) : Type 0 where
  pub longer : length old ≤ length new
  pub known : (name : List ℕ) → IsKnown old name → IsKnown new name
  pub number : (name : List ℕ) → IsKnown old name → number_of new name ≡ number_of old name

pub grown_not : (names : Names) → IsGrown names names
grown_not names = record { longer = omega arith; known = λ name h. h; number = λ name h. refl }

pub grown_twice : (old middle new : Names) → IsGrown old middle → IsGrown middle new → IsGrown old new
grown_twice old middle new one other = record {
  longer = let h = one.longer in let k = other.longer in omega arith;
  known = λ name h. other.known name (one.known name h);
  number = λ name h. other.number name (one.known name h) ∙ one.number name h;
}

or_weaker : (a b c : Bool) → (b ≡ true → c ≡ true) → (a || b) ≡ true → (a || c) ≡ true
or_weaker true b c weaker h = refl
or_weaker false b c weaker h = weaker h

or_true : (a : Bool) → (a || true) ≡ true
or_true true = refl
or_true false = refl

known_before : (names more : Names) (name : List ℕ) → IsKnown names name → IsKnown (names ++ more) name
known_before [] more name h = absurd (cc)
known_before (first ∷ rest) more name h = or_weaker (bytes_eq name first) (list_any (bytes_eq name) rest) (list_any (bytes_eq name) (rest ++ more)) (known_before rest more name) h

number_before : (names more : Names) (name : List ℕ) → IsKnown names name → number_of (names ++ more) name ≡ number_of names name
number_before [] more name h = absurd (cc)
number_before (first ∷ rest) more name h = grind (arith, number_before rest more name)

known_last : (names : Names) (name : List ℕ) → IsKnown (names ++ name ∷ []) name
known_last [] name = grind (arith, bytes_eq-Decides)
known_last (first ∷ rest) name = or_weaker (bytes_eq name first) true (list_any (bytes_eq name) (rest ++ name ∷ [])) (λ h. known_last rest name) (or_true (bytes_eq name first))

-- the names once one more has a number
pub grown_by_one : (names : Names) (name : List ℕ) → IsGrown names (with_name names name)
grown_by_one names name = by_known (list_any (bytes_eq name) names)
  where
    by_known : (v : Bool) → IsGrown names (cond v names (names ++ name ∷ []))
    by_known true = grown_not names
    by_known false = record {
      longer = omega (arith, length-append names (name ∷ []));
      known = λ other h. known_before names (name ∷ []) other h;
      number = λ other h. number_before names (name ∷ []) other h;
    }

pub known_then : (names : Names) (name : List ℕ) → IsKnown (with_name names name) name
known_then names name = by_known (list_any (bytes_eq name) names) refl
  where
    by_known : (v : Bool) → list_any (bytes_eq name) names ≡ v → IsKnown (cond v names (names ++ name ∷ [])) name
    by_known true e = e
    by_known false e = known_last names name

pub number_then : (names : Names) (name : List ℕ) → number_of (with_name names name) name ≡ number_of names name
number_then names name = by_known (list_any (bytes_eq name) names) refl
  where
    by_last : (names : Names) → list_any (bytes_eq name) names ≡ false → number_of (names ++ name ∷ []) name ≡ number_of names name
    by_last [] e = grind (arith, bytes_eq-Decides)
    by_last (first ∷ rest) e = grind (arith, by_last rest)

    by_known : (v : Bool) → list_any (bytes_eq name) names ≡ v → number_of (cond v names (names ++ name ∷ [])) name ≡ number_of names name
    by_known true e = refl
    by_known false e = by_last names e

-- a name that has a number gets no other
pub known_stays : (names : Names) (name : List ℕ) → IsKnown names name → with_name names name ≡ names
known_stays names name h = rw h refl

pub number_within : (names : Names) (name : List ℕ) → IsKnown names name → number_of names name < length names
number_within [] name h = absurd (cc)
number_within (first ∷ rest) name h = grind (arith, number_within rest name)

-- the name at its number
pub name_at-number_of : (names : Names) (name : List ℕ) → IsKnown names name → name_at names (number_of names name) ≡ name
name_at-number_of names name h = ap (λ o. unwrap_or o []) (slice_get-number_of names name h)
