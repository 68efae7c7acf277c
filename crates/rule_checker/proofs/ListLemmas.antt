-- What holds of each element of a list, after one more and at a place; lists of sizes and of variables.
use Rattle.std.proofs.Common.{◌≡◌, ℕ, ◌<◌, Bool, true, false, List, [], ◌∷◌, ◌++◌, Some, length, slice_get, slice_index, nat_eq, zero, suc, refl, subst, arith}
use Rattle.std.specs.List.{AllByRecursion, list_any, list_all}
use Rattle.std.proofs.lemmas.Option.{none-some}
use Rattle.std.proofs.lemmas.Bool.Decides.{nat_tests}

pub all_push : {A : Type 0} (P : A → Type 0) (xs : List A) (y : A) → AllByRecursion P xs → P y → AllByRecursion P (xs ++ y ∷ [])
all_push P [] y h p = (p, tt)
all_push P (x ∷ xs) y h p = (h.0, all_push P xs y h.1 p)

pub all_map : {A : Type 0} (P Q : A → Type 0) → ((x : A) → P x → Q x) → (xs : List A) → AllByRecursion P xs → AllByRecursion Q xs
all_map P Q f [] h = tt
all_map P Q f (x ∷ xs) h = (f x h.0, all_map P Q f xs h.1)

pub all_get : {A : Type 0} (P : A → Type 0) (xs : List A) (i : ℕ) (x : A) → AllByRecursion P xs → slice_get xs i ≡ Some x → P x
all_get P [] i x h e = absurd (none-some x e)
all_get P (y ∷ xs) zero x h e = let same : y ≡ x = cc in subst P same h.0
all_get P (y ∷ xs) (suc i) x h e = all_get P xs i x h.1 e

pub all_index : (P : ℕ → Type 0) (xs : List ℕ) (i : ℕ) → AllByRecursion P xs → i < length xs → P (slice_index xs i)
all_index P [] i h within = absurd (omega arith)
all_index P (y ∷ xs) zero h within = h.0
all_index P (y ∷ xs) (suc i) h within = all_index P xs i h.1 (omega arith)

pub list_all-passes : {A : Type 0} (p : A → Bool) (xs : List A) → AllByRecursion (λ x. p x ≡ true) xs → list_all p xs ≡ true
list_all-passes p [] h = refl
list_all-passes p (x ∷ xs) h = let rest = list_all-passes p xs h.1 in let first = h.0 in rw first rest

-- what stands in a list stands there where more follows
pub slice_get-front : {A : Type 0} (xs ys : List A) (i : ℕ) (x : A) → slice_get xs i ≡ Some x → slice_get (xs ++ ys) i ≡ Some x
slice_get-front [] ys i x at = absurd (none-some x at)
slice_get-front (first ∷ rest) ys zero x at = at
slice_get-front (first ∷ rest) ys (suc i) x at = slice_get-front rest ys i x at

-- no number of a list is one that is above them all
pub none_equal : (xs : List ℕ) (v : ℕ) → AllByRecursion (λ n. n < v) xs → list_any (nat_eq v) xs ≡ false
none_equal [] v h = refl
none_equal (x ∷ xs) v h = let rest = none_equal xs v h.1 in let lt : x < v = h.0 in grind (arith, nat_tests)
