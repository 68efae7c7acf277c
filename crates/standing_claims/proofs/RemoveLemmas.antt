-- One element taken out of a list at its place, and what a filter by its number leaves.
use Rattle.std.proofs.Common.{◌≡◌, ℕ, ◌+◌, ◌<◌, ◌≤◌, List, [], ◌∷◌, ◌++◌, Bool, true, false, not, cond, Option, Some, filter, find, length, map, option_map, zero, suc, ◌==◌, refl, sym, ◌∙◌, ap, arith}
use Rattle.std.specs.List.{AllByRecursion, position_or_len, remove, zip}
use Rattle.std.proofs.lemmas.Bool.{eqb-true}
use Rattle.rule_base.specs.Memory.{Rises, RisesFrom}

-- what rises above a number rises above a smaller one
RisesFrom-lower : (low high : ℕ) (ns : List ℕ) → low ≤ high → RisesFrom high ns → RisesFrom low ns
RisesFrom-lower low high [] le rises = tt
RisesFrom-lower low high (n ∷ ns) le rises = (omega (arith, le, rises.0), rises.1)

rest_rises : (first : ℕ) (rest : List ℕ) → RisesFrom first rest → Rises rest
rest_rises first [] rises = tt
rest_rises first (n ∷ rest) rises = rises.1

RisesFrom-remove : (low : ℕ) (ns : List ℕ) (i : ℕ) → RisesFrom low ns → RisesFrom low (remove ns i)
RisesFrom-remove low [] zero rises = tt
RisesFrom-remove low [] (suc i) rises = tt
RisesFrom-remove low (n ∷ ns) zero rises = RisesFrom-lower low n ns (omega (arith, rises.0)) rises.1
RisesFrom-remove low (n ∷ ns) (suc i) rises = (rises.0, RisesFrom-remove n ns i rises.1)

pub Rises-remove : (ns : List ℕ) (i : ℕ) → Rises ns → Rises (remove ns i)
Rises-remove [] zero rises = tt
Rises-remove [] (suc i) rises = tt
Rises-remove (n ∷ ns) zero rises = rest_rises n ns rises
Rises-remove (n ∷ ns) (suc i) rises = RisesFrom-remove n ns i rises

RisesFrom-push : (low last : ℕ) (ns : List ℕ) → low < last → RisesFrom low ns → AllByRecursion (λ n. n < last) ns → RisesFrom low (ns ++ last ∷ [])
RisesFrom-push low last [] lt rises below = (lt, tt)
RisesFrom-push low last (n ∷ ns) lt rises below = (rises.0, RisesFrom-push n last ns below.0 rises.1 below.1)

pub Rises-push : (last : ℕ) (ns : List ℕ) → Rises ns → AllByRecursion (λ n. n < last) ns → Rises (ns ++ last ∷ [])
Rises-push last [] rises below = tt
Rises-push last (n ∷ ns) rises below = RisesFrom-push n last ns below.0 rises below.1

pub Each-remove : {X : Type 0} (P : X → Type 0) (xs : List X) (i : ℕ) → AllByRecursion P xs → AllByRecursion P (remove xs i)
Each-remove P [] zero each = tt
Each-remove P [] (suc i) each = tt
Each-remove P (x ∷ xs) zero each = each.1
Each-remove P (x ∷ xs) (suc i) each = (each.0, Each-remove P xs i each.1)

pub map-remove : {X Y : Type 0} (f : X → Y) (xs : List X) (i : ℕ) → map f (remove xs i) ≡ remove (map f xs) i
map-remove f [] zero = refl
map-remove f [] (suc i) = refl
map-remove f (x ∷ xs) zero = refl
map-remove f (x ∷ xs) (suc i) = ap (λ ys. f x ∷ ys) (map-remove f xs i)

-- nothing is taken out past the end
pub remove-past : {X : Type 0} (xs : List X) → remove xs (length xs) ≡ xs
remove-past [] = refl
remove-past (x ∷ xs) = ap (λ ys. x ∷ ys) (remove-past xs)

-- a filter and a search through a map
filter_step : {X Y : Type 0} (f : X → Y) (b : Bool) (x : X) (xs : List X) (ys : List Y) → map f xs ≡ ys → map f (cond b (x ∷ xs) xs) ≡ cond b (f x ∷ ys) ys
filter_step f true x xs ys rest = ap (λ zs. f x ∷ zs) rest
filter_step f false x xs ys rest = rest

pub map-filter : {X Y : Type 0} (f : X → Y) (p : Y → Bool) (xs : List X) → map f (filter (λ x. p (f x)) xs) ≡ filter p (map f xs)
map-filter f p [] = refl
map-filter f p (x ∷ xs) = filter_step f (p (f x)) x (filter (λ y. p (f y)) xs) (filter p (map f xs)) (map-filter f p xs)

find_step : {X Y : Type 0} (f : X → Y) (b : Bool) (x : X) (o : Option X) (r : Option Y) → r ≡ option_map f o → cond b (Some (f x)) r ≡ option_map f (cond b (Some x) o)
find_step f true x o r rest = refl
find_step f false x o r rest = rest

pub find-map : {X Y : Type 0} (f : X → Y) (p : Y → Bool) (xs : List X) → find p (map f xs) ≡ option_map f (find (λ x. p (f x)) xs)
find-map f p [] = refl
find-map f p (x ∷ xs) = find_step f (p (f x)) x (find (λ y. p (f y)) xs) (find p (map f xs)) (find-map f p xs)

pub zip-maps : {X Y Z : Type 0} (f : X → Y) (g : X → Z) (xs : List X) → zip (map f xs) (map g xs) ≡ map (λ x. (f x, g x)) xs
zip-maps f g [] = refl
zip-maps f g (x ∷ xs) = ap (λ ys. (f x, g x) ∷ ys) (zip-maps f g xs)

pub zip-map : {X Y : Type 0} (f : X → Y) (xs : List X) → zip xs (map f xs) ≡ map (λ x. (x, f x)) xs
zip-map f [] = refl
zip-map f (x ∷ xs) = ap (λ ys. (x, f x) ∷ ys) (zip-map f xs)

pub map-map : {X Y Z : Type 0} (f : X → Y) (g : Y → Z) (xs : List X) → map g (map f xs) ≡ map (λ x. g (f x)) xs
map-map f g [] = refl
map-map f g (x ∷ xs) = ap (λ ys. g (f x) ∷ ys) (map-map f g xs)

-- numbers above one aren't it
above_step : {X : Type 0} (number : X → ℕ) (n : ℕ) (x : X) (xs : List X) (b : Bool) → (number x == n) ≡ b → n < number x → filter (λ y. not (number y == n)) xs ≡ xs → cond (not b) (x ∷ filter (λ y. not (number y == n)) xs) (filter (λ y. not (number y == n)) xs) ≡ x ∷ xs
above_step number n x xs true is lt rest = absurd (omega (arith, eqb-true (number x) n is, lt))
above_step number n x xs false is lt rest = ap (λ ys. x ∷ ys) rest

all_above : {X : Type 0} (number : X → ℕ) (n low : ℕ) (xs : List X) → n ≤ low → RisesFrom low (map number xs) → filter (λ x. not (number x == n)) xs ≡ xs
all_above number n low [] le rises = refl
all_above number n low (x ∷ xs) le rises =
    above_step number n x xs (number x == n) refl (omega (arith, le, rises.0)) (all_above number n (number x) xs (omega (arith, le, rises.0)) rises.1)

-- where numbers rise, a filter takes out the one place of the number
place_step : {X : Type 0} (number : X → ℕ) (n : ℕ) (x : X) (xs : List X) (b : Bool) → (number x == n) ≡ b → RisesFrom (number x) (map number xs) → filter (λ y. not (number y == n)) xs ≡ remove xs (position_or_len (λ y. number y == n) xs) → cond (not b) (x ∷ filter (λ y. not (number y == n)) xs) (filter (λ y. not (number y == n)) xs) ≡ remove (x ∷ xs) (cond (not b) (1 + position_or_len (λ y. number y == n) xs) 0)
place_step number n x xs true is rises rest = all_above number n (number x) xs (omega (arith, eqb-true (number x) n is)) rises
place_step number n x xs false is rises rest =
    let next : 1 + position_or_len (λ y. number y == n) xs ≡ suc (position_or_len (λ y. number y == n) xs) = omega arith in
    ap (λ ys. x ∷ ys) rest ∙ ap (remove (x ∷ xs)) (sym next)

pub filter-numbered : {X : Type 0} (number : X → ℕ) (n : ℕ) (xs : List X) → Rises (map number xs) → filter (λ x. not (number x == n)) xs ≡ remove xs (position_or_len (λ x. number x == n) xs)
filter-numbered number n [] rises = refl
filter-numbered number n (x ∷ xs) rises =
    place_step number n x xs (number x == n) refl rises (filter-numbered number n xs (rest_rises (number x) (map number xs) rises))
