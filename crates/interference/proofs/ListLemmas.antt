-- Members of lists that are joined, and lists of numbers in which none stands twice.
use Rattle.std.proofs.Common.{◌≡◌, ℕ, List, [], ◌∷◌, ◌++◌, Bool, true, false, ◌||◌, ◌⊎◌, inl, inr, nat_eq, ◌==◌, refl, sym, ◌∙◌, subst, true≢false, slice_get, zip, Some, zero, suc, ap}
use Rattle.std.specs.List.{AllByRecursion, IsDistinct, flat_map, list_any}
use Rattle.std.proofs.lemmas.Bool.Decides.{Decides-eqb}
use Rattle.rule_base.proofs.AmongLemmas.{Among, Among-append_left, Among-append_right, Among-flat_map}

pub Each-among : {X : Type 0} (P : X → Type 0) (xs : List X) (x : X) → AllByRecursion P xs → Among x xs → P x
Each-among P [] x each among = absurd among
Each-among P (y ∷ xs) x each (inl same) = subst P (sym same) each.0
Each-among P (y ∷ xs) x each (inr later) = Each-among P xs x each.1 later

pub Each-from_among : {X : Type 0} (P : X → Type 0) (xs : List X) → ((x : X) → Among x xs → P x) → AllByRecursion P xs
Each-from_among P [] of_each = tt
Each-from_among P (x ∷ xs) of_each = (of_each x (inl refl), Each-from_among P xs (λ y among. of_each y (inr among)))

pub Among-append : {X : Type 0} (x : X) (xs ys : List X) → Among x (xs ++ ys) → Among x xs ⊎ Among x ys
Among-append x [] ys among = inr among
Among-append x (y ∷ xs) ys (inl same) = inl (inl same)
Among-append x (y ∷ xs) ys (inr later) = shifted (Among-append x xs ys later)
  where
    shifted : Among x xs ⊎ Among x ys → Among x (y ∷ xs) ⊎ Among x ys
    shifted (inl here) = inl (inr here)
    shifted (inr there) = inr there

-- a number that some element equals is among them
of_test : (n m : ℕ) (ms : List ℕ) (b : Bool) → (m == n) ≡ b → (b || list_any (λ k. k == n) ms) ≡ true → (list_any (λ k. k == n) ms ≡ true → Among n ms) → Among n (m ∷ ms)
of_test n m ms true is any later = inl (sym ((Decides-eqb m n).0 is))
of_test n m ms false is any later = inr (later any)

pub Among-list_any : (n : ℕ) (ns : List ℕ) → list_any (λ k. k == n) ns ≡ true → Among n ns
Among-list_any n [] any = absurd (let wrong : ⊥ = cc in wrong)
Among-list_any n (m ∷ ms) any = of_test n m ms (m == n) refl any (Among-list_any n ms)

-- a member of lists put together is one of one of them
pub record IsAmongOne {X Y : Type 0} (f : X → List Y) (y : Y) (xs : List X) : Type 0 where
  pub source : X
  pub there : Among source xs
  pub among : Among y (f source)

pub IsAmongOne-flat_map : {X Y : Type 0} (f : X → List Y) (y : Y) (xs : List X) → Among y (flat_map f xs) → IsAmongOne f y xs
IsAmongOne-flat_map f y [] among = absurd among
IsAmongOne-flat_map f y (x ∷ xs) among = by_side (Among-append y (f x) (flat_map f xs) among) (IsAmongOne-flat_map f y xs)
  where
    by_side : Among y (f x) ⊎ Among y (flat_map f xs) → (Among y (flat_map f xs) → IsAmongOne f y xs) → IsAmongOne f y (x ∷ xs)
    by_side (inl here) later = record { source = x; there = inl refl; among = here }
    by_side (inr rest) later = let found = later rest in record { source = found.source; there = inr found.there; among = found.among }

-- numbers that differ
differs : (n m : ℕ) → nat_eq n m ≡ false → n ≡ m → ⊥
differs n m apart same = true≢false (sym ((Decides-eqb n m).1 same) ∙ apart)

differ_by : (n m : ℕ) (b : Bool) → nat_eq n m ≡ b → (n ≡ m → ⊥) → nat_eq n m ≡ false
differ_by n m false is other = is
differ_by n m true is other = absurd (other ((Decides-eqb n m).0 is))

-- in two lists joined in which no number stands twice
pub distinct_front : (xs ys : List ℕ) → IsDistinct nat_eq (xs ++ ys) → IsDistinct nat_eq xs
unfolding IsDistinct
distinct_front [] ys distinct = tt
distinct_front (x ∷ xs) ys distinct = (Each-from_among (λ y. nat_eq x y ≡ false) xs (λ y among. Each-among (λ z. nat_eq x z ≡ false) (xs ++ ys) y distinct.0 (Among-append_left y xs ys among)), distinct_front xs ys distinct.1)

pub distinct_back : (xs ys : List ℕ) → IsDistinct nat_eq (xs ++ ys) → IsDistinct nat_eq ys
unfolding IsDistinct
distinct_back [] ys distinct = distinct
distinct_back (x ∷ xs) ys distinct = distinct_back xs ys distinct.1

pub distinct_apart : (xs ys : List ℕ) (n : ℕ) → IsDistinct nat_eq (xs ++ ys) → Among n xs → Among n ys → ⊥
unfolding IsDistinct
distinct_apart [] ys n distinct left right = left
distinct_apart (x ∷ xs) ys n distinct (inl same) right = differs x n (Each-among (λ z. nat_eq x z ≡ false) (xs ++ ys) n distinct.0 (Among-append_right n xs ys right)) (sym same)
distinct_apart (x ∷ xs) ys n distinct (inr later) right = distinct_apart xs ys n distinct.1 later right

-- and the other way round
pub distinct_joined : (xs ys : List ℕ) → IsDistinct nat_eq xs → IsDistinct nat_eq ys → ((n : ℕ) → Among n xs → Among n ys → ⊥) → IsDistinct nat_eq (xs ++ ys)
unfolding IsDistinct
distinct_joined [] ys of_xs of_ys apart = of_ys
distinct_joined (x ∷ xs) ys of_xs of_ys apart =
    (Each-from_among (λ y. nat_eq x y ≡ false) (xs ++ ys) (λ y among. by_side y (Among-append y xs ys among)), distinct_joined xs ys of_xs.1 of_ys (λ n left right. apart n (inr left) right))
  where
    by_side : (y : ℕ) → Among y xs ⊎ Among y ys → nat_eq x y ≡ false
    by_side y (inl left) = Each-among (λ z. nat_eq x z ≡ false) xs y of_xs.0 left
    by_side y (inr right) = differ_by x y (nat_eq x y) refl (λ same. apart y (inl (sym same)) right)

-- of lists put together in which no number stands twice, each number is of one
pub one_source : {X : Type 0} (f : X → List ℕ) (xs : List X) (x y : X) (n : ℕ) → IsDistinct nat_eq (flat_map f xs) → Among x xs → Among y xs → Among n (f x) → Among n (f y) → x ≡ y
one_source f [] x y n distinct of_x of_y by_x by_y = absurd of_x
one_source f (z ∷ xs) x y n distinct (inl is_x) (inl is_y) by_x by_y = is_x ∙ sym is_y
one_source f (z ∷ xs) x y n distinct (inl is_x) (inr of_y) by_x by_y =
    absurd (distinct_apart (f z) (flat_map f xs) n distinct (subst (λ w. Among n (f w)) is_x by_x) (Among-flat_map f y n xs of_y by_y))
one_source f (z ∷ xs) x y n distinct (inr of_x) (inl is_y) by_x by_y =
    absurd (distinct_apart (f z) (flat_map f xs) n distinct (subst (λ w. Among n (f w)) is_y by_y) (Among-flat_map f x n xs of_x by_x))
one_source f (z ∷ xs) x y n distinct (inr of_x) (inr of_y) by_x by_y = one_source f xs x y n (distinct_back (f z) (flat_map f xs) distinct) of_x of_y by_x by_y

-- the first of a pair at a place is at that place
pub zip-first : {X Y : Type 0} (xs : List X) (ys : List Y) (i : ℕ) (p : X × Y) → slice_get (zip xs ys) i ≡ Some p → slice_get xs i ≡ Some p.0
zip-first [] ys i p is = absurd (let wrong : ⊥ = cc in wrong)
zip-first (x ∷ xs) [] i p is = absurd (let wrong : ⊥ = cc in wrong)
zip-first (x ∷ xs) (y ∷ ys) zero p is = let same : (x, y) ≡ p = cc in ap (λ (q : _ × _). Some q.0) same
zip-first (x ∷ xs) (y ∷ ys) (suc i) p is = zip-first xs ys i p is
