-- What holds of each element of a list, by recursion on the list: of lists joined, mapped and filtered.
use Rattle.std.proofs.Common.{◌≡◌, ℕ, List, [], ◌∷◌, ◌++◌, Bool, true, false, cond, Option, None, Some, slice_get, suc, zero, ◌&&◌, map, refl, subst}
use Rattle.std.specs.List.{AllByRecursion, cons_option, filter, filter_map, find, flat_map, list_all}

pub Each-append : {X : Type 0} (P : X → Type 0) (xs ys : List X) → AllByRecursion P xs → AllByRecursion P ys → AllByRecursion P (xs ++ ys)
Each-append P [] ys of_xs of_ys = of_ys
Each-append P (x ∷ xs) ys of_xs of_ys = (of_xs.0, Each-append P xs ys of_xs.1 of_ys)

pub Each-weaker : {X : Type 0} (P Q : X → Type 0) → ((x : X) → P x → Q x) → (xs : List X) → AllByRecursion P xs → AllByRecursion Q xs
Each-weaker P Q weaker [] of_xs = tt
Each-weaker P Q weaker (x ∷ xs) of_xs = (weaker x of_xs.0, Each-weaker P Q weaker xs of_xs.1)

pub Each-always : {X : Type 0} (P : X → Type 0) → ((x : X) → P x) → (xs : List X) → AllByRecursion P xs
Each-always P always [] = tt
Each-always P always (x ∷ xs) = (always x, Each-always P always xs)

pub Each-map : {X Y : Type 0} (P : Y → Type 0) (f : X → Y) (xs : List X) → AllByRecursion (λ x. P (f x)) xs → AllByRecursion P (map f xs)
Each-map P f [] of_xs = tt
Each-map P f (x ∷ xs) of_xs = (of_xs.0, Each-map P f xs of_xs.1)

pub Each-flat_map : {X Y : Type 0} (P : Y → Type 0) (f : X → List Y) (xs : List X) → AllByRecursion (λ x. AllByRecursion P (f x)) xs → AllByRecursion P (flat_map f xs)
Each-flat_map P f [] of_xs = tt
Each-flat_map P f (x ∷ xs) of_xs = Each-append P (f x) (flat_map f xs) of_xs.0 (Each-flat_map P f xs of_xs.1)

filter_step : {X : Type 0} (P : X → Type 0) (b : Bool) (x : X) (rest : List X) → P x → AllByRecursion P rest → AllByRecursion P (cond b (x ∷ rest) rest)
filter_step P true x rest of_x of_rest = (of_x, of_rest)
filter_step P false x rest of_x of_rest = of_rest

pub Each-filter : {X : Type 0} (P : X → Type 0) (p : X → Bool) (xs : List X) → AllByRecursion P xs → AllByRecursion P (filter p xs)
Each-filter P p [] of_xs = tt
Each-filter P p (x ∷ xs) of_xs = filter_step P (p x) x (filter p xs) of_xs.0 (Each-filter P p xs of_xs.1)

-- what a filter leaves passes its test
filtered_step : {X : Type 0} (p : X → Bool) (b : Bool) (x : X) (rest : List X) → p x ≡ b → AllByRecursion (λ y. p y ≡ true) rest → AllByRecursion (λ y. p y ≡ true) (cond b (x ∷ rest) rest)
filtered_step p true x rest passes of_rest = (passes, of_rest)
filtered_step p false x rest passes of_rest = of_rest

pub Each-filtered : {X : Type 0} (p : X → Bool) (xs : List X) → AllByRecursion (λ x. p x ≡ true) (filter p xs)
Each-filtered p [] = tt
Each-filtered p (x ∷ xs) = filtered_step p (p x) x (filter p xs) refl (Each-filtered p xs)

find_step : {X : Type 0} (P : X → Type 0) (b : Bool) (x found : X) (rest : Option X) → P x → (rest ≡ Some found → P found) → cond b (Some x) rest ≡ Some found → P found
find_step P true x found rest of_x of_rest is = let same : x ≡ found = cc in subst P same of_x
find_step P false x found rest of_x of_rest is = of_rest is

-- the first element that passes a test is one of them
pub Each-find : {X : Type 0} (P : X → Type 0) (p : X → Bool) (xs : List X) (found : X) → AllByRecursion P xs → find p xs ≡ Some found → P found
Each-find P p [] found of_xs is = absurd (let wrong : ⊥ = cc in wrong)
Each-find P p (x ∷ xs) found of_xs is = find_step P (p x) x found (find p xs) of_xs.0 (Each-find P p xs found of_xs.1) is

pub Each-slice_get : {X : Type 0} (P : X → Type 0) (xs : List X) (i : ℕ) (x : X) → AllByRecursion P xs → slice_get xs i ≡ Some x → P x
Each-slice_get P [] i x of_xs at = absurd (let wrong : ⊥ = cc in wrong)
Each-slice_get P (y ∷ ys) zero x of_xs at = let same : y ≡ x = cc in subst P same of_xs.0
Each-slice_get P (y ∷ ys) (suc i) x of_xs at = Each-slice_get P ys i x of_xs.1 at

filter_map_step : {Y : Type 0} (P : Y → Type 0) (o : Option Y) (rest : List Y) → ((y : Y) → o ≡ Some y → P y) → AllByRecursion P rest → AllByRecursion P (cons_option o rest)
filter_map_step P None rest of_o of_rest = of_rest
filter_map_step P (Some y) rest of_o of_rest = (of_o y refl, of_rest)

pub Each-filter_map : {X Y : Type 0} (P : Y → Type 0) (h : X → Option Y) (xs : List X) → ((x : X) (y : Y) → h x ≡ Some y → P y) → AllByRecursion P (filter_map h xs)
Each-filter_map P h [] gives = tt
Each-filter_map P h (x ∷ xs) gives = filter_map_step P (h x) (filter_map h xs) (gives x) (Each-filter_map P h xs gives)

all_step : {X : Type 0} (p : X → Bool) (x : X) (xs : List X) (b : Bool) → p x ≡ b → (b && list_all p xs) ≡ true → (list_all p xs ≡ true → AllByRecursion (λ y. p y ≡ true) xs) → (p x ≡ true) × AllByRecursion (λ y. p y ≡ true) xs
all_step p x xs true at all rest = (at, rest all)
all_step p x xs false at all rest = absurd (let wrong : ⊥ = cc in wrong)

-- a test that each element passes, as a fact of each
pub Each-list_all : {X : Type 0} (p : X → Bool) (xs : List X) → list_all p xs ≡ true → AllByRecursion (λ x. p x ≡ true) xs
Each-list_all p [] all = tt
Each-list_all p (x ∷ xs) all = all_step p x xs (p x) refl all (Each-list_all p xs)

-- two facts of each element, as one
pub Each-both : {X : Type 0} (P Q R : X → Type 0) → ((x : X) → P x → Q x → R x) → (xs : List X) → AllByRecursion P xs → AllByRecursion Q xs → AllByRecursion R xs
Each-both P Q R both [] of_p of_q = tt
Each-both P Q R both (x ∷ xs) of_p of_q = (both x of_p.0 of_q.0, Each-both P Q R both xs of_p.1 of_q.1)
