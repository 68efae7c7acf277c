-- How a list is taken apart at a place.
use Rattle.std.proofs.Common.{◌≡◌, ℕ, ◌+◌, ◌<◌, List, [], ◌∷◌, ◌++◌, length, get_or, take, drop, sym, ◌∙◌, ap}
use Rattle.std.proofs.lemmas.List.{drop_more, take_more}

-- the list from a place on begins with the element there
pub drop_at_place : {X : Type 0} (xs : List X) (i : ℕ) (x : X) → i < length xs → x ≡ get_or xs i x → drop i xs ≡ x ∷ drop (i + 1) xs
drop_at_place xs i x within at = drop_more xs i x within ∙ ap (λ y. y ∷ drop (i + 1) xs) (sym at)

-- the list up to a place ends with the element before it
pub take_to_place : {X : Type 0} (xs : List X) (i : ℕ) (x : X) → i < length xs → x ≡ get_or xs i x → take (i + 1) xs ≡ take i xs ++ x ∷ []
take_to_place xs i x within at = take_more xs i x within ∙ ap (λ y. take i xs ++ y ∷ []) (sym at)
