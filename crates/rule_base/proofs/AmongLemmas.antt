-- Membership by recursion on the list: in lists joined, mapped and enumerated, and of what a search finds.
use Rattle.std.proofs.Common.{◌≡◌, ℕ, ◌+◌, List, [], ◌∷◌, ◌++◌, Bool, true, false, cond, ◌||◌, Some, ◌⊎◌, inl, inr, map, slice_get, suc, zero, refl, sym, ◌∙◌, ap, subst, arith}
use Rattle.std.specs.List.{enumerate_from, find, flat_map, list_any}

abbrev pub Among : {X : Type 0} → X → List X → Type 0
Among x [] = ⊥
Among x (y ∷ ys) = (x ≡ y) ⊎ Among x ys

pub Among-append_left : {X : Type 0} (x : X) (xs ys : List X) → Among x xs → Among x (xs ++ ys)
Among-append_left x [] ys among = absurd among
Among-append_left x (z ∷ xs) ys (inl same) = inl same
Among-append_left x (z ∷ xs) ys (inr later) = inr (Among-append_left x xs ys later)

pub Among-append_right : {X : Type 0} (x : X) (xs ys : List X) → Among x ys → Among x (xs ++ ys)
Among-append_right x [] ys among = among
Among-append_right x (z ∷ xs) ys among = inr (Among-append_right x xs ys among)

pub Among-map : {X Y : Type 0} (f : X → Y) (x : X) (xs : List X) → Among x xs → Among (f x) (map f xs)
Among-map f x [] among = absurd among
Among-map f x (y ∷ xs) (inl same) = inl (ap f same)
Among-map f x (y ∷ xs) (inr later) = inr (Among-map f x xs later)

pub Among-flat_map : {X Y : Type 0} (f : X → List Y) (x : X) (y : Y) (xs : List X) → Among x xs → Among y (f x) → Among y (flat_map f xs)
Among-flat_map f x y [] among here = absurd among
Among-flat_map f x y (z ∷ xs) (inl same) here = Among-append_left y (f z) (flat_map f xs) (subst (λ w. Among y (f w)) same here)
Among-flat_map f x y (z ∷ xs) (inr later) here = Among-append_right y (f z) (flat_map f xs) (Among-flat_map f x y xs later here)

-- an element that passes a test makes the test hold of some element
any_here : (b rest : Bool) → b ≡ true → (b || rest) ≡ true
any_here true rest e = refl
any_here false rest e = absurd (let wrong : ⊥ = cc in wrong)

any_later : (b rest : Bool) → rest ≡ true → (b || rest) ≡ true
any_later true rest e = refl
any_later false rest e = e

pub list_any-among : {X : Type 0} (p : X → Bool) (x : X) (xs : List X) → Among x xs → p x ≡ true → list_any p xs ≡ true
list_any-among p x [] among passes = absurd among
list_any-among p x (y ∷ xs) (inl same) passes = any_here (p y) (list_any p xs) (ap p (sym same) ∙ passes)
list_any-among p x (y ∷ xs) (inr later) passes = any_later (p y) (list_any p xs) (list_any-among p x xs later passes)

-- a test holds of some element of two lists joined where it does of one of the two
pub any_append_left : {X : Type 0} (p : X → Bool) (xs ys : List X) → list_any p xs ≡ true → list_any p (xs ++ ys) ≡ true
any_append_left p [] ys any = absurd (let wrong : ⊥ = cc in wrong)
any_append_left p (x ∷ xs) ys any = any_of_either (p x) (list_any p xs) (list_any p (xs ++ ys)) any (any_append_left p xs ys)
  where
    any_of_either : (b rest more : Bool) → (b || rest) ≡ true → (rest ≡ true → more ≡ true) → (b || more) ≡ true
    any_of_either true rest more either later = refl
    any_of_either false rest more either later = later either

pub any_append_right : {X : Type 0} (p : X → Bool) (xs ys : List X) → list_any p ys ≡ true → list_any p (xs ++ ys) ≡ true
any_append_right p [] ys any = any
any_append_right p (x ∷ xs) ys any = any_later (p x) (list_any p (xs ++ ys)) (any_append_right p xs ys any)

-- what a search finds is there, and passes the test
pub record IsFound {X : Type 0} (p : X → Bool) (xs : List X) (x : X) : Type 0 where
  pub there : Among x xs
  pub passes : p x ≡ true

found_step : {X : Type 0} (p : X → Bool) (b : Bool) (y x : X) (xs : List X) → p y ≡ b → cond b (Some y) (find p xs) ≡ Some x → (find p xs ≡ Some x → IsFound p xs x) → IsFound p (y ∷ xs) x
found_step p true y x xs at is later = let same : y ≡ x = cc in record { there = inl (sym same); passes = ap p (sym same) ∙ at }
found_step p false y x xs at is later = let found = later is in record { there = inr found.there; passes = found.passes }

pub IsFound-find : {X : Type 0} (p : X → Bool) (xs : List X) (x : X) → find p xs ≡ Some x → IsFound p xs x
IsFound-find p [] x is = absurd (let wrong : ⊥ = cc in wrong)
IsFound-find p (y ∷ xs) x is = found_step p (p y) y x xs refl is (IsFound-find p xs x)

-- an element stands in the enumeration with its place
pub Among-enumerate_from : {X : Type 0} (first : ℕ) (xs : List X) (i : ℕ) (x : X) → slice_get xs i ≡ Some x → Among (first + i, x) (enumerate_from first xs)
Among-enumerate_from first [] i x at = absurd (let wrong : ⊥ = cc in wrong)
Among-enumerate_from first (y ∷ xs) zero x at = let same : x ≡ y = cc in inl (ap (λ n. (n, x)) (omega arith) ∙ ap (λ z. (first, z)) same)
Among-enumerate_from first (y ∷ xs) (suc i) x at =
    let same : first + 1 + i ≡ first + suc i = omega arith in
    inr (subst (λ n. Among (n, x) (enumerate_from (first + 1) xs)) same (Among-enumerate_from (first + 1) xs i x at))
