-- Lists beside each other: how pairs of them take elements in, and what each pair has of either list.
use Rattle.std.proofs.Common.{◌≡◌, ℕ, List, [], ◌∷◌, ◌++◌, Some, length, drop, map, slice_get, take, zero, suc, refl, sym, ◌∙◌, ap, arith}
use Rattle.std.specs.List.{flat_map, zip}

pub length-beside : {X Y : Type 0} (xs : List X) (ys : List Y) → length xs ≡ length ys → length (zip xs ys) ≡ length ys
length-beside [] [] same = refl
length-beside [] (y ∷ ys) same = absurd (omega (arith, same))
length-beside (x ∷ xs) [] same = absurd (omega (arith, same))
length-beside (x ∷ xs) (y ∷ ys) same = ap suc (length-beside xs ys (omega (arith, same)))

pub zip-push : {X Y : Type 0} (xs : List X) (ys : List Y) (x : X) (y : Y) → length xs ≡ length ys → zip (xs ++ x ∷ []) (ys ++ y ∷ []) ≡ zip xs ys ++ (x, y) ∷ []
zip-push [] [] x y same = refl
zip-push [] (b ∷ ys) x y same = absurd (omega (arith, same))
zip-push (a ∷ xs) [] x y same = absurd (omega (arith, same))
zip-push (a ∷ xs) (b ∷ ys) x y same = ap (λ rest. (a, b) ∷ rest) (zip-push xs ys x y (omega (arith, same)))

pub slice_get-zip : {X Y : Type 0} (xs : List X) (ys : List Y) (at : ℕ) (x : X) (y : Y) → slice_get xs at ≡ Some x → slice_get ys at ≡ Some y → slice_get (zip xs ys) at ≡ Some (x, y)
slice_get-zip [] ys at x y of_x of_y = absurd (let wrong : ⊥ = cc in wrong)
slice_get-zip (a ∷ xs) [] at x y of_x of_y = absurd (let wrong : ⊥ = cc in wrong)
slice_get-zip (a ∷ xs) (b ∷ ys) zero x y of_x of_y =
    let first : a ≡ x = cc in
    let second : b ≡ y = cc in
    ap (λ z. Some (z, b)) first ∙ ap (λ z. Some (x, z)) second
slice_get-zip (a ∷ xs) (b ∷ ys) (suc at) x y of_x of_y = slice_get-zip xs ys at x y of_x of_y

pub take-zip : {X Y : Type 0} (n : ℕ) (xs : List X) (ys : List Y) → take n (zip xs ys) ≡ zip (take n xs) (take n ys)
take-zip zero xs ys = refl
take-zip (suc n) [] ys = refl
take-zip (suc n) (x ∷ xs) [] = refl
take-zip (suc n) (x ∷ xs) (y ∷ ys) = ap (λ rest. (x, y) ∷ rest) (take-zip n xs ys)

zip-none : {X Y : Type 0} (xs : List X) → zip {X = Y} xs [] ≡ []
zip-none [] = refl
zip-none (x ∷ xs) = refl

pub drop-zip : {X Y : Type 0} (n : ℕ) (xs : List X) (ys : List Y) → drop n (zip xs ys) ≡ zip (drop n xs) (drop n ys)
drop-zip zero xs ys = refl
drop-zip (suc n) [] ys = refl
drop-zip (suc n) (x ∷ xs) [] = sym (zip-none (drop n xs))
drop-zip (suc n) (x ∷ xs) (y ∷ ys) = drop-zip n xs ys

pub drop-map : {X Y : Type 0} (f : X → Y) (n : ℕ) (xs : List X) → drop n (map f xs) ≡ map f (drop n xs)
drop-map f zero xs = refl
drop-map f (suc n) [] = refl
drop-map f (suc n) (x ∷ xs) = drop-map f n xs

-- what is read of the first list alone, and of the second alone
pub flat_map-firsts : {X Y Z : Type 0} (h : X → List Z) (xs : List X) (ys : List Y) → length xs ≡ length ys → flat_map (λ (pair : X × Y). h pair.0) (zip xs ys) ≡ flat_map h xs
flat_map-firsts h [] ys same = refl
flat_map-firsts h (x ∷ xs) [] same = absurd (omega (arith, same))
flat_map-firsts h (x ∷ xs) (y ∷ ys) same = ap (λ rest. h x ++ rest) (flat_map-firsts h xs ys (omega (arith, same)))

pub flat_map-seconds : {X Y Z : Type 0} (h : Y → List Z) (xs : List X) (ys : List Y) → length xs ≡ length ys → flat_map (λ (pair : X × Y). h pair.1) (zip xs ys) ≡ flat_map h ys
flat_map-seconds h [] [] same = refl
flat_map-seconds h [] (y ∷ ys) same = absurd (omega (arith, same))
flat_map-seconds h (x ∷ xs) [] same = absurd (omega (arith, same))
flat_map-seconds h (x ∷ xs) (y ∷ ys) same = ap (λ rest. h y ++ rest) (flat_map-seconds h xs ys (omega (arith, same)))

pub flat_map-same : {X Z : Type 0} (h k : X → List Z) (xs : List X) → ((x : X) → h x ≡ k x) → flat_map h xs ≡ flat_map k xs
flat_map-same h k [] same = refl
flat_map-same h k (x ∷ xs) same = ap (λ front. front ++ flat_map h xs) (same x) ∙ ap (λ rest. k x ++ rest) (flat_map-same h k xs same)
