-- Places in rising order, filters of them, and whether a place is among them.
use Rattle.std.proofs.Common.{◌≡◌, ℕ, ◌+◌, ◌<◌, ◌≤◌, List, [], ◌∷◌, ◌++◌, length, Bool, true, false, not, cond, ◌&&◌, ◌||◌, ◌==◌, eqb, zero, suc, refl, ap, sym, ◌∙◌, arith, rules, tests}
use Rattle.std.specs.List.{AllByRecursion, filter, range_with_len}
use Rattle.std.proofs.lemmas.Bool.{eqb-true}
use Rattle.std.proofs.lemmas.Bool.Decides.{nat_tests}
use Rattle.std.proofs.lemmas.Map.Views.{any-filter_same}
use Rattle.rule_base.specs.Memory.{Rises, RisesFrom}
use Rattle.rule_base.specs.Numbers.{has_number}

-- tests that agree on each item leave the same
filter_step : {X : Type 0} (a b : Bool) (x : X) (xs ys : List X) → a ≡ b → xs ≡ ys → cond a (x ∷ xs) xs ≡ cond b (x ∷ ys) ys
filter_step true true x xs ys same rest = ap (λ zs. x ∷ zs) rest
filter_step false false x xs ys same rest = rest
filter_step true false x xs ys same rest = absurd (let wrong : ⊥ = cc in wrong)
filter_step false true x xs ys same rest = absurd (let wrong : ⊥ = cc in wrong)

pub filter-agree : {X : Type 0} (f g : X → Bool) (xs : List X) → AllByRecursion (λ x. f x ≡ g x) xs → filter f xs ≡ filter g xs
filter-agree f g [] agree = refl
filter-agree f g (x ∷ xs) agree = filter_step (f x) (g x) x (filter f xs) (filter g xs) agree.0 (filter-agree f g xs agree.1)

-- a test that all pass leaves all
pub filter-all : {X : Type 0} (f : X → Bool) (xs : List X) → AllByRecursion (λ x. f x ≡ true) xs → filter f xs ≡ xs
filter-all f [] passes = refl
filter-all f (x ∷ xs) passes = filter_step (f x) true x (filter f xs) xs passes.0 (filter-all f xs passes.1)

-- two tests one after the other
both_step : {X : Type 0} (a b c : Bool) (f : X → Bool) (x : X) (xs ys : List X) → f x ≡ a → b ≡ (a && c) → xs ≡ filter f ys → cond b (x ∷ xs) xs ≡ filter f (cond c (x ∷ ys) ys)
both_step true true true f x xs ys of_f of_b rest = filter_step true (f x) x xs (filter f ys) (sym of_f) rest
both_step false false true f x xs ys of_f of_b rest = rest ∙ filter_step false (f x) x (filter f ys) (filter f ys) (sym of_f) refl
both_step true false false f x xs ys of_f of_b rest = rest
both_step false false false f x xs ys of_f of_b rest = rest
both_step true true false f x xs ys of_f of_b rest = absurd (let wrong : ⊥ = cc in wrong)
both_step false true c f x xs ys of_f of_b rest = absurd (let wrong : ⊥ = cc in wrong)
both_step true false true f x xs ys of_f of_b rest = absurd (let wrong : ⊥ = cc in wrong)

pub filter-both : {X : Type 0} (f g h : X → Bool) (xs : List X) → AllByRecursion (λ x. h x ≡ (f x && g x)) xs → filter h xs ≡ filter f (filter g xs)
filter-both f g h [] both = refl
filter-both f g h (x ∷ xs) both = both_step (f x) (h x) (g x) f x (filter h xs) (filter g xs) refl both.0 (filter-both f g h xs both.1)

-- a place is among what is left if it passes and was among all
pub has_number-filter : (f : ℕ → Bool) (places : List ℕ) (place : ℕ) → has_number (filter f places) place ≡ (f place && has_number places place)
has_number-filter f places place = any-filter_same (λ p. p == place) f (f place) (λ p same. ap f (eqb-true p place same)) places

-- places above a number are above each smaller one
pub RisesFrom-lower : (low high : ℕ) (places : List ℕ) → low ≤ high → RisesFrom high places → RisesFrom low places
RisesFrom-lower low high [] le rises = tt
RisesFrom-lower low high (p ∷ places) le rises = (omega (arith, rises.0), rises.1)

pub Rises-above : (low : ℕ) (places : List ℕ) → RisesFrom low places → Rises places
Rises-above low [] rises = tt
Rises-above low (p ∷ places) rises = rises.1

skips : (low : ℕ) (b : Bool) (p : ℕ) (rest : List ℕ) → low < p → RisesFrom p rest → RisesFrom low (cond b (p ∷ rest) rest)
skips low true p rest lt rises = (lt, rises)
skips low false p rest lt rises = RisesFrom-lower low p rest (omega (arith, lt)) rises

RisesFrom-filter : (low : ℕ) (f : ℕ → Bool) (places : List ℕ) → RisesFrom low places → RisesFrom low (filter f places)
RisesFrom-filter low f [] rises = tt
RisesFrom-filter low f (p ∷ places) rises = skips low (f p) p (filter f places) rises.0 (RisesFrom-filter p f places rises.1)

skips_first : (b : Bool) (p : ℕ) (rest : List ℕ) → RisesFrom p rest → Rises (cond b (p ∷ rest) rest)
skips_first true p rest rises = rises
skips_first false p rest rises = Rises-above p rest rises

pub Rises-filter : (f : ℕ → Bool) (places : List ℕ) → Rises places → Rises (filter f places)
Rises-filter f [] rises = tt
Rises-filter f (p ∷ places) rises = skips_first (f p) p (filter f places) (RisesFrom-filter p f places rises)

RisesFrom-push : (low last : ℕ) (places : List ℕ) → low < last → RisesFrom low places → AllByRecursion (λ p. p < last) places → RisesFrom low (places ++ last ∷ [])
RisesFrom-push low last [] lt rises below = (lt, tt)
RisesFrom-push low last (p ∷ places) lt rises below = (rises.0, RisesFrom-push p last places below.0 rises.1 below.1)

pub Rises-push : (last : ℕ) (places : List ℕ) → Rises places → AllByRecursion (λ p. p < last) places → Rises (places ++ last ∷ [])
Rises-push last [] rises below = tt
Rises-push last (p ∷ places) rises below = RisesFrom-push p last places below.0 rises below.1

-- a place that isn't above where the places begin isn't among them, and nothing goes with it
above_stay : (low place : ℕ) (places : List ℕ) → place ≤ low → RisesFrom low places → filter (λ p. not (p == place)) places ≡ places
above_stay low place [] le rises = refl
above_stay low place (p ∷ places) le rises =
    let differs : eqb p place ≡ false = search (rules, tests, rises.0) in
    rw differs (ap (λ rest. p ∷ rest) (above_stay p place places (omega (arith, rises.0)) rises.1))

-- nothing goes with a place that isn't there
absent_step : (b : Bool) (place p : ℕ) (places : List ℕ) → (b || has_number places place) ≡ false → (has_number places place ≡ false → filter (λ q. not (q == place)) places ≡ places) → cond (not b) (p ∷ filter (λ q. not (q == place)) places) (filter (λ q. not (q == place)) places) ≡ p ∷ places
absent_step false place p places absent rest = ap (λ qs. p ∷ qs) (rest absent)
absent_step true place p places absent rest = absurd (let wrong : ⊥ = cc in wrong)

pub filter-absent : (place : ℕ) (places : List ℕ) → has_number places place ≡ false → filter (λ p. not (p == place)) places ≡ places
filter-absent place [] absent = refl
filter-absent place (p ∷ places) absent = absent_step (p == place) place p places absent (filter-absent place places)

-- one goes with a place that is there
once_step : (b : Bool) (place p : ℕ) (places : List ℕ) → RisesFrom p places → (p == place) ≡ b → (b || has_number places place) ≡ true → (has_number places place ≡ true → length (filter (λ q. not (q == place)) places) + 1 ≡ length places) → length (cond (not b) (p ∷ filter (λ q. not (q == place)) places) (filter (λ q. not (q == place)) places)) + 1 ≡ suc (length places)
once_step true place p places rises is here rest =
    let same : p ≡ place = eqb-true p place is in
    omega (arith, ap length (above_stay p place places (omega (arith, same)) rises))
once_step false place p places rises is here rest = omega (arith, rest here)

RisesFrom-once : (low place : ℕ) (places : List ℕ) → RisesFrom low places → has_number places place ≡ true → length (filter (λ p. not (p == place)) places) + 1 ≡ length places
RisesFrom-once low place [] rises here = absurd (let wrong : ⊥ = cc in wrong)
RisesFrom-once low place (p ∷ places) rises here = once_step (p == place) place p places rises.1 refl here (RisesFrom-once p place places rises.1)

pub Rises-once : (place : ℕ) (places : List ℕ) → Rises places → has_number places place ≡ true → length (filter (λ p. not (p == place)) places) + 1 ≡ length places
Rises-once place [] rises here = absurd (let wrong : ⊥ = cc in wrong)
Rises-once place (p ∷ places) rises here = once_step (p == place) place p places rises refl here (RisesFrom-once p place places rises)

-- so many places from one on
RisesFrom-range : (low first count : ℕ) → low < first → RisesFrom low (range_with_len first count)
RisesFrom-range low first zero lt = tt
RisesFrom-range low first (suc count) lt = (lt, RisesFrom-range first (first + 1) count (omega arith))

pub Rises-range : (first count : ℕ) → Rises (range_with_len first count)
Rises-range first zero = tt
Rises-range first (suc count) = RisesFrom-range first (first + 1) count (omega arith)

pub below-range : (last first count : ℕ) → first + count ≤ last → AllByRecursion (λ p. p < last) (range_with_len first count)
below-range last first zero le = tt
below-range last first (suc count) le = (omega (arith, le), below-range last (first + 1) count (omega (arith, le)))

range_step : (b : Bool) (first place : ℕ) (rest : Bool) → (first == place) ≡ b → first ≤ place → (first + 1 ≤ place → rest ≡ true) → (b || rest) ≡ true
range_step true first place rest is le later = refl
range_step false first place rest is le later = later (grind (arith, nat_tests))

pub has_number-range : (first count place : ℕ) → first ≤ place → place < first + count → has_number (range_with_len first count) place ≡ true
has_number-range first zero place le lt = absurd (omega (arith, le, lt))
has_number-range first (suc count) place le lt = range_step (first == place) first place (has_number (range_with_len (first + 1) count) place) refl le (λ later. has_number-range (first + 1) count place later (omega (arith, lt)))
