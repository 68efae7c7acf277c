-- A list gone through by places: the part before a place, and the part from it on.
use Rattle.std.proofs.Common.{◌≡◌, ℕ, ◌+◌, List, [], ◌∷◌, ◌++◌, Some, drop, slice_get, take, suc, zero, ◌∙◌, ap, arith}

-- one element more before the place
pub take_next : {X : Type 0} (xs : List X) (at : ℕ) (x : X) → slice_get xs at ≡ Some x → take (at + 1) xs ≡ take at xs ++ x ∷ []
take_next [] at x is = absurd (let wrong : ⊥ = cc in wrong)
take_next (y ∷ xs) zero x is = let same : y ≡ x = cc in ap (λ z. z ∷ []) same
take_next (y ∷ xs) (suc at) x is =
    let next : suc at + 1 ≡ suc (at + 1) = omega arith in
    ap (λ n. take n (y ∷ xs)) next ∙ ap (λ rest. y ∷ rest) (take_next xs at x is)

-- and one fewer from it on
pub drop_next : {X : Type 0} (xs : List X) (at : ℕ) (x : X) → slice_get xs at ≡ Some x → drop at xs ≡ x ∷ drop (at + 1) xs
drop_next [] at x is = absurd (let wrong : ⊥ = cc in wrong)
drop_next (y ∷ xs) zero x is = let same : y ≡ x = cc in ap (λ z. z ∷ xs) same
drop_next (y ∷ xs) (suc at) x is =
    let next : suc (at + 1) ≡ suc at + 1 = omega arith in
    drop_next xs at x is ∙ ap (λ n. x ∷ drop n (y ∷ xs)) next
