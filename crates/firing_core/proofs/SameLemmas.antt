-- Lists that are compared item by item.
use lib.Pointwise.{pointwise}
use Rattle.std.proofs.Common.{◌≡◌, ℕ, ◌+◌, List, [], ◌∷◌, Bool, true, false, ◌&&◌, Some, drop, length, slice_get, suc, refl, ap}
use Rattle.rule_base.proofs.StepByStepLemmas.{drop_next}

-- one item further
pub pointwise-next : {X : Type 0} (same : X → X → Bool) (xs ys : List X) (at : ℕ) (x y : X) → slice_get xs at ≡ Some x → slice_get ys at ≡ Some y → pointwise same (drop at xs) (drop at ys) ≡ (same x y && pointwise same (drop (at + 1) xs) (drop (at + 1) ys))
pointwise-next same xs ys at x y is_x is_y = (λ i. pointwise same (drop_next xs at x is_x i) (drop_next ys at y is_y i))

-- lists of different lengths aren't the same
pub pointwise-lengths : {X : Type 0} (same : X → X → Bool) (xs ys : List X) → (length xs ≡ length ys → ⊥) → pointwise same xs ys ≡ false
pointwise-lengths same [] [] differ = absurd (differ refl)
pointwise-lengths same [] (y ∷ ys) differ = refl
pointwise-lengths same (x ∷ xs) [] differ = refl
pointwise-lengths same (x ∷ xs) (y ∷ ys) differ = rest (same x y) (pointwise-lengths same xs ys (λ is. differ (ap suc is)))
  where
    rest : (b : Bool) → pointwise same xs ys ≡ false → (b && pointwise same xs ys) ≡ false
    rest true none = none
    rest false none = refl
