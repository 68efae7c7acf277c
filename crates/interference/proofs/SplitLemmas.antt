-- The most pinned attribute that a loop found is the split, and one class more in the list of all splits.
use Rattle.std.proofs.Common.{◌≡◌, ℕ, zero, suc, ◌+◌, ◌<◌, ◌≤◌, List, [], ◌∷◌, ◌++◌, Bool, true, false, cond, ◌&&◌, Option, Some, None, ◌⊎◌, inl, inr, find, map, nat_le, nat_lt, slice_get, take, refl, sym, ◌∙◌, ap, arith, rules, tests}
use Rattle.std.specs.List.{enumerate_from, list_all, range_with_len}
use Rattle.rule_base.specs.declared.program.Rule.{Rule}
use Rattle.rule_base.proofs.AmongLemmas.{Among}
use Rattle.interference.specs.Splits.{is_most_pinned, pin_count, split}
use Rattle.interference.specs.Counting.{IsMost}
use Rattle.interference.proofs.RegionLemmas.{Among-range, first_or_later}

-- the first number of a range that passes, and none where none does
found_at : (p : ℕ → Bool) (first at : ℕ) (rest : List ℕ) (b : Bool) → p first ≡ b → p at ≡ true → (at ≡ first) ⊎ (first + 1 ≤ at) → (first + 1 ≤ at → b ≡ false) → (first + 1 ≤ at → find p rest ≡ Some at) → cond b (Some first) (find p rest) ≡ Some at
found_at p first at rest true is passes (inl same) before later = ap (λ n. Some n) (sym same)
found_at p first at rest true is passes (inr above) before later = absurd (let wrong : true ≡ false = before above in let never : ⊥ = cc in never)
found_at p first at rest false is passes (inl same) before later = absurd (let wrong : false ≡ true = sym is ∙ ap p (sym same) ∙ passes in let never : ⊥ = cc in never)
found_at p first at rest false is passes (inr above) before later = later above

find-range : (p : ℕ → Bool) (first count at : ℕ) → first ≤ at → at < first + count → p at ≡ true → ((k : ℕ) → first ≤ k → k < at → p k ≡ false) → find p (range_with_len first count) ≡ Some at
find-range p first zero at from below passes before = absurd (omega (arith, from, below))
find-range p first (suc count) at from below passes before =
    found_at p first at (range_with_len (first + 1) count) (p first) refl passes (first_or_later first at from) (λ above. before first (omega arith) (omega (arith, above)))
    (λ above. find-range p (first + 1) count at above (omega (arith, below)) passes (λ k low high. before k (omega (arith, low)) high))

not_found : (b : Bool) (first : ℕ) (rest : Option ℕ) → b ≡ false → rest ≡ None → cond b (Some first) rest ≡ None
not_found true first rest is none = absurd (let wrong : ⊥ = cc in wrong)
not_found false first rest is none = none

find-range_none : (p : ℕ → Bool) (first count : ℕ) → ((k : ℕ) → first ≤ k → k < first + count → p k ≡ false) → find p (range_with_len first count) ≡ None
find-range_none p first zero never = refl
find-range_none p first (suc count) never =
    not_found (p first) first (find p (range_with_len (first + 1) count)) (never first (omega arith) (omega arith)) (find-range_none p (first + 1) count (λ k low high. never k (omega (arith, low)) (omega (arith, high))))

-- a test of all numbers of a range
all_range : (p : ℕ → Bool) (first count : ℕ) → ((k : ℕ) → first ≤ k → k < first + count → p k ≡ true) → list_all p (range_with_len first count) ≡ true
all_range p first zero each = refl
all_range p first (suc count) each = rw (each first (omega arith) (omega arith)) (all_range p (first + 1) count (λ k low high. each k (omega (arith, low)) (omega (arith, high))))

one_fails : (b rest : Bool) → b ≡ false → (b && rest) ≡ false
one_fails false rest is = refl
one_fails true rest is = absurd (let wrong : ⊥ = cc in wrong)

rest_fails : (b rest : Bool) → rest ≡ false → (b && rest) ≡ false
rest_fails true rest is = is
rest_fails false rest is = refl

not_all : (p : ℕ → Bool) (at : ℕ) (ns : List ℕ) → Among at ns → p at ≡ false → list_all p ns ≡ false
not_all p at [] among fails = absurd among
not_all p at (n ∷ ns) (inl same) fails = one_fails (p n) (list_all p ns) (ap p (sym same) ∙ fails)
not_all p at (n ∷ ns) (inr later) fails = rest_fails (p n) (list_all p ns) (not_all p at ns later fails)

both_true : (a b : Bool) → a ≡ true → b ≡ true → (a && b) ≡ true
both_true true b of_a of_b = of_b
both_true false b of_a of_b = absurd (let wrong : ⊥ = cc in wrong)

lt_true : (a b : ℕ) → a < b → nat_lt a b ≡ true
lt_true a b lt = search (rules, tests, lt)

le_true : (a b : ℕ) → a ≤ b → nat_le a b ≡ true
le_true a b le = search (rules, tests, le)

le_false : (a b : ℕ) → b < a → nat_le a b ≡ false
le_false a b lt = search (rules, tests, lt)

-- the attribute that was found is the first that is pinned most
pub split-most : (rules' : List Rule) (class size most : ℕ) (found : Option ℕ) → IsMost rules' class size most found → found ≡ split rules' class size
split-most rules' class size most None is =
    sym (find-range_none (is_most_pinned rules' class (range_with_len 0 size)) 0 size
    (λ k low high. one_fails (nat_lt 0 (pin_count rules' class k)) (list_all (λ other. nat_le (pin_count rules' class other) (pin_count rules' class k)) (range_with_len 0 size)) (ap (nat_lt 0) (is.1 k (omega (arith, high))))))
split-most rules' class size most (Some attr) is =
    let count : ℕ → ℕ = pin_count rules' class in
    let passes : is_most_pinned rules' class (range_with_len 0 size) attr ≡ true =
    both_true (nat_lt 0 (count attr)) (list_all (λ other. nat_le (count other) (count attr)) (range_with_len 0 size)) (ap (nat_lt 0) is.1 ∙ lt_true 0 most is.2)
    (all_range (λ other. nat_le (count other) (count attr)) 0 size (λ k low high. ap (nat_le (count k)) is.1 ∙ le_true (count k) most (is.4 k (omega (arith, high))))) in
    sym (find-range (is_most_pinned rules' class (range_with_len 0 size)) 0 size attr (omega arith) (omega (arith, is.0)) passes
    (λ k low high. rest_fails (nat_lt 0 (count k)) (list_all (λ other. nat_le (count other) (count k)) (range_with_len 0 size))
    (not_all (λ other. nat_le (count other) (count k)) attr (range_with_len 0 size) (Among-range 0 size attr (omega arith) (omega (arith, is.0)))
    (ap (λ n. nat_le n (count k)) is.1 ∙ le_false most (count k) (is.3 k high)))))

-- one class more
pub map-enumerate_next : {X Y : Type 0} (f : ℕ × X → Y) (first : ℕ) (xs : List X) (at : ℕ) (x : X) → slice_get xs at ≡ Some x → map f (enumerate_from first (take (at + 1) xs)) ≡ map f (enumerate_from first (take at xs)) ++ f (first + at, x) ∷ []
map-enumerate_next f first [] at x is = absurd (let wrong : ⊥ = cc in wrong)
map-enumerate_next f first (y ∷ xs) zero x is =
    let same : y ≡ x = cc in
    let here : first ≡ first + 0 = omega arith in
    ap (λ z. f (first, z) ∷ []) same ∙ ap (λ n. f (n, x) ∷ []) here
map-enumerate_next f first (y ∷ xs) (suc at) x is =
    let next : suc at + 1 ≡ suc (at + 1) = omega arith in
    let place : first + 1 + at ≡ first + suc at = omega arith in
    ap (λ n. map f (enumerate_from first (take n (y ∷ xs)))) next
    ∙ ap (λ rest. f (first, y) ∷ rest) (map-enumerate_next f (first + 1) xs at x is)
    ∙ ap (λ n. f (first, y) ∷ (map f (enumerate_from (first + 1) (take at xs)) ++ f (n, x) ∷ [])) place
