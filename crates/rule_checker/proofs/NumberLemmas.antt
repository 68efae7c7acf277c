-- How the number of a name among names tells whether the name is there.
use Rattle.std.proofs.Common.{◌≡◌, ℕ, ◌+◌, ◌<◌, Bool, false, cond, List, [], ◌∷◌, Some, None, length, nat_eq, map, refl, sym, ap, ◌∙◌, arith}
use Rattle.std.specs.List.{list_any, position, position_from}
use Rattle.std.proofs.lemmas.List.Quantifiers.{position-Some}
use Rattle.std.proofs.lemmas.Iterator.Adapters.{position_from-zero}
use Rattle.rule_checker.specs.Names.{number_in}

-- where no place passes, no element does
none_passes : {A : Type 0} (p : A → Bool) (i : ℕ) (xs : List A) → position_from p i xs ≡ None → list_any p xs ≡ false
none_passes p i [] none = refl
none_passes p i (x ∷ xs) none = grind (arith, none_passes p (i + 1) xs)

pub list_any-unnumbered : {A : Type 0} (p : A → Bool) (xs : List A) → position p xs ≡ None → list_any p xs ≡ false
list_any-unnumbered p xs none = none_passes p 0 xs (sym (position_from-zero p xs) ∙ none)

-- the place of a value among values of a function
place_from-map : {A B : Type 0} (p : B → Bool) (f : A → B) (i : ℕ) (xs : List A) → position_from p i (map f xs) ≡ position_from (λ x. p (f x)) i xs
place_from-map p f i [] = refl
place_from-map p f i (x ∷ xs) = ap (cond (p (f x)) (Some i)) (place_from-map p f (i + 1) xs)

pub position-map : {A B : Type 0} (p : B → Bool) (f : A → B) (xs : List A) → position p (map f xs) ≡ position (λ x. p (f x)) xs
position-map p f xs = position_from-zero p (map f xs) ∙ place_from-map p f 0 xs ∙ sym (position_from-zero (λ x. p (f x)) xs)

-- a number is below the number of names
pub number_in-within : (names : List ℕ) (name number : ℕ) → number_in names name ≡ Some number → number < length names
number_in-within names name number e = (position-Some (nat_eq name) names number 0 e).0
