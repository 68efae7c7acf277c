-- Sums over lists, and over the numbers below another. A list that has nothing more often than another has no greater
-- sum.
use Rattle.std.proofs.Common.{◌≡◌, ℕ, ◌+◌, ◌<◌, ◌≤◌, List, [], ◌∷◌, ◌++◌, Bool, true, false, cond, not, map, reverse, zero, suc, refl, ap, sym, ◌∙◌, arith}
use Rattle.std.specs.List.{AllByRecursion, filter, flat_map, sum_by}
use Rattle.std.proofs.lemmas.List.{reverse-append}
use Rattle.std.proofs.lemmas.List.Concat.{flat_map-cons}
use Rattle.std.proofs.lemmas.List.Sums.{sum_by-cons}
use Rattle.alpha_memory.specs.Times.{times}

abbrev pub total : {X : Type 0} → (X → ℕ) → List X → ℕ
total f [] = 0
total f (x ∷ xs) = f x + total f xs

pub sum-total : {X : Type 0} (f : X → ℕ) (xs : List X) → sum_by f xs ≡ total f xs
sum-total f [] = refl
sum-total f (x ∷ xs) = sum_by-cons f x xs ∙ ap (λ n. f x + n) (sum-total f xs)

pub times-total : {X : Type 0} (test : X → Bool) (xs : List X) → times test xs ≡ total (λ x. cond (test x) 1 0) xs
times-total test [] = refl
times-total test (x ∷ xs) = ap (λ n. cond (test x) 1 0 + n) (times-total test xs)

pub total-append : {X : Type 0} (f : X → ℕ) (xs ys : List X) → total f (xs ++ ys) ≡ total f xs + total f ys
total-append f [] ys = omega arith
total-append f (x ∷ xs) ys = omega (arith, total-append f xs ys)

pub total-reverse : {X : Type 0} (f : X → ℕ) (xs : List X) → total f (reverse xs) ≡ total f xs
total-reverse f [] = refl
total-reverse f (x ∷ xs) =
    ap (total f) (reverse-append (x ∷ []) xs) ∙ (let each : total f (reverse xs ++ x ∷ []) ≡ f x + total f xs = omega (arith, total-append f (reverse xs) (x ∷ []), total-reverse f xs) in each)

pub total-map : {X Y : Type 0} (f : Y → ℕ) (g : X → Y) (xs : List X) → total f (map g xs) ≡ total (λ x. f (g x)) xs
total-map f g [] = refl
total-map f g (x ∷ xs) = ap (λ n. f (g x) + n) (total-map f g xs)

pub total-flat_map : {X Y : Type 0} (f : Y → ℕ) (g : X → List Y) (xs : List X) → total f (flat_map g xs) ≡ total (λ x. total f (g x)) xs
total-flat_map f g [] = refl
total-flat_map f g (x ∷ xs) =
    ap (total f) (flat_map-cons g x xs) ∙ total-append f (g x) (flat_map g xs) ∙ ap (λ n. total f (g x) + n) (total-flat_map f g xs)

pub total-same : {X : Type 0} (f g : X → ℕ) → ((x : X) → f x ≡ g x) → (xs : List X) → total f xs ≡ total g xs
total-same f g same [] = refl
total-same f g same (x ∷ xs) = ap (λ n. n + total f xs) (same x) ∙ ap (λ n. g x + n) (total-same f g same xs)

pub total-each : {X : Type 0} (f g : X → ℕ) (xs : List X) → AllByRecursion (λ x. f x ≡ g x) xs → total f xs ≡ total g xs
total-each f g [] same = refl
total-each f g (x ∷ xs) same = ap (λ n. n + total f xs) same.0 ∙ ap (λ n. g x + n) (total-each f g xs same.1)

pub total-le : {X : Type 0} (f g : X → ℕ) → ((x : X) → f x ≤ g x) → (xs : List X) → total f xs ≤ total g xs
total-le f g le [] = omega arith
total-le f g le (x ∷ xs) = omega (arith, le x, total-le f g le xs)

pub total-each_le : {X : Type 0} (f g : X → ℕ) (xs : List X) → AllByRecursion (λ x. f x ≤ g x) xs → total f xs ≤ total g xs
total-each_le f g [] le = omega arith
total-each_le f g (x ∷ xs) le = omega (arith, le.0, total-each_le f g xs le.1)

pub total-filter : {X : Type 0} (f : X → ℕ) (keep : X → Bool) (xs : List X) → total f (filter keep xs) ≡ total (λ x. cond (keep x) (f x) 0) xs
total-filter f keep [] = refl
total-filter f keep (x ∷ xs) = step (keep x) ∙ ap (λ n. cond (keep x) (f x) 0 + n) (total-filter f keep xs)
  where
    step : (b : Bool) → total f (cond b (x ∷ filter keep xs) (filter keep xs)) ≡ cond b (f x) 0 + total f (filter keep xs)
    step true = refl
    step false = omega arith

-- those that pass a test, and the others
pub total-split : {X : Type 0} (test : X → Bool) (f g : X → ℕ) (xs : List X) → total (λ x. cond (test x) (f x) (g x)) xs ≡ total f (filter test xs) + total g (filter (λ x. not (test x)) xs)
total-split test f g [] = refl
total-split test f g (x ∷ xs) = step (test x) (total-split test f g xs)
  where
    step : (b : Bool) → total (λ y. cond (test y) (f y) (g y)) xs ≡ total f (filter test xs) + total g (filter (λ y. not (test y)) xs) →
        cond b (f x) (g x) + total (λ y. cond (test y) (f y) (g y)) xs ≡ total f (cond b (x ∷ filter test xs) (filter test xs)) + total g (cond (not b) (x ∷ filter (λ y. not (test y)) xs) (filter (λ y. not (test y)) xs))
    step true rest = omega (arith, rest)
    step false rest = omega (arith, rest)

-- one of those that pass
pub total-one : {X : Type 0} (same : X → X → Bool) → ((x y : X) → same x y ≡ true → x ≡ y) → (f : X → ℕ) (x : X) (xs : List X) → 0 < times (same x) xs → f x ≤ total f xs
total-one same exact f x [] some = absurd (omega (arith, some))
total-one same exact f x (y ∷ ys) some = step (same x y) refl some (total-one same exact f x ys)
  where
    step : (b : Bool) → same x y ≡ b → 0 < cond b 1 0 + times (same x) ys → (0 < times (same x) ys → f x ≤ total f ys) → f x ≤ f y + total f ys
    step true is more rest = omega (arith, ap f (exact x y is))
    step false is more rest = omega (arith, rest (omega (arith, more)))

-- what is left once one was taken out
record Without {X : Type 0} (x : X) (xs : List X) : Type 0 where
  rest : List X
  is : (f : X → ℕ) → total f xs ≡ f x + total f rest

take_out : {X : Type 0} (same : X → X → Bool) → ((x y : X) → same x y ≡ true → x ≡ y) → (x : X) (xs : List X) → 0 < times (same x) xs → Without x xs
take_out same exact x [] some = absurd (omega (arith, some))
take_out same exact x (y ∷ ys) some = step (same x y) refl some (take_out same exact x ys)
  where
    step : (b : Bool) → same x y ≡ b → 0 < cond b 1 0 + times (same x) ys → (0 < times (same x) ys → Without x ys) → Without x (y ∷ ys)
    step true is more rest = record { rest = ys; is = λ f. ap (λ z. f z + total f ys) (sym (exact x y is)) }
    step false is more rest =
        let found = rest (omega (arith, more)) in
        record { rest = y ∷ found.rest; is = λ f. let all : f y + total f ys ≡ f x + (f y + total f found.rest) = omega (arith, found.is f) in all }

pub total-below : {X : Type 0} (same : X → X → Bool) → ((x y : X) → same x y ≡ true → x ≡ y) → ((x : X) → same x x ≡ true) → (xs ys : List X) → ((x : X) → times (same x) xs ≤ times (same x) ys) → (f : X → ℕ) → total f xs ≤ total f ys
total-below same exact self [] ys le f = omega arith
total-below same exact self (x ∷ xs) ys le f =
    let first : times (same x) (x ∷ xs) ≡ 1 + times (same x) xs = ap (λ b. cond b 1 0 + times (same x) xs) (self x) in
    let found = take_out same exact x ys (omega (arith, le x, first)) in
    let rest = total-below same exact self xs found.rest
    (λ z. omega (arith, le z, times-total (same z) ys, found.is (λ y. cond (same z y) 1 0), times-total (same z) found.rest)) f in
    omega (arith, rest, found.is f)

-- sums over the numbers below another
abbrev pub up_to : ℕ → (ℕ → ℕ) → ℕ
up_to zero f = 0
up_to (suc n) f = up_to n f + f n

pub up_to-same : (n : ℕ) (f g : ℕ → ℕ) → ((k : ℕ) → k < n → f k ≡ g k) → up_to n f ≡ up_to n g
up_to-same zero f g same = refl
up_to-same (suc n) f g same = omega (arith, up_to-same n f g (λ k lt. same k (omega (arith, lt))), same n (omega arith))

pub up_to-le : (n : ℕ) (f g : ℕ → ℕ) → ((k : ℕ) → k < n → f k ≤ g k) → up_to n f ≤ up_to n g
up_to-le zero f g le = omega arith
up_to-le (suc n) f g le = omega (arith, up_to-le n f g (λ k lt. le k (omega (arith, lt))), le n (omega arith))

pub up_to-add : (n : ℕ) (f g : ℕ → ℕ) → up_to n (λ k. f k + g k) ≡ up_to n f + up_to n g
up_to-add zero f g = refl
up_to-add (suc n) f g = omega (arith, up_to-add n f g)

pub up_to-none : (n : ℕ) → up_to n (λ k. 0) ≡ 0
up_to-none zero = refl
up_to-none (suc n) = omega (arith, up_to-none n)

pub up_to-front : (n : ℕ) (f : ℕ → ℕ) → up_to (suc n) f ≡ f 0 + up_to n (λ k. f (suc k))
up_to-front zero f = omega arith
up_to-front (suc n) f = omega (arith, up_to-front n f)
