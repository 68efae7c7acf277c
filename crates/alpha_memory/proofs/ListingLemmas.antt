-- How often a number is filed under a hash, once one more is.
use Rattle.std.proofs.Common.{◌≡◌, inl, inr, ℕ, ◌+◌, ◌<◌, ◌==◌, ◌&&◌, List, [], ◌∷◌, ◌++◌, Bool, true, false, cond, map, max, nat_lt, refl, reverse, ap, ◌∙◌, arith}
use Rattle.std.specs.List.{filter}
use Rattle.std.proofs.lemmas.Bool.{cases_eq, ltb-true}
use Rattle.std.proofs.lemmas.Bool.Decides.{nat_tests}
use Rattle.std.proofs.lemmas.List.{map-append}
use Rattle.std.proofs.lemmas.List.Elements.{filter-append}
use Rattle.hash_buckets.specs.Buckets.{numbers_of}
use Rattle.alpha_memory.specs.Times.{times}
use Rattle.alpha_memory.specs.Dispatch.{how_often}
use Rattle.alpha_memory.proofs.TimesLemmas.{times-append, times-reverse}

numbers_of-append : (es fs : List (ℕ × ℕ)) (hash : ℕ) → numbers_of (es ++ fs) hash ≡ numbers_of es hash ++ numbers_of fs hash
numbers_of-append es fs hash = ap (map (λ (e : ℕ × ℕ). e.1)) (filter-append (λ (e : ℕ × ℕ). e.0 == hash) es fs) ∙ map-append (λ (e : ℕ × ℕ). e.1) (filter (λ e. e.0 == hash) es) (filter (λ e. e.0 == hash) fs)

one_entry : (hash at number n : ℕ) (same : Bool) → times (λ m. n == m) (map (λ (e : ℕ × ℕ). e.1) (cond same ((hash, number) ∷ []) [])) ≡ cond (same && (n == number)) 1 0
one_entry hash at number n true = elim (n == number) as (λ b. cond b 1 0 + 0 ≡ cond (true && b) 1 0) [ true ↦ refl | false ↦ refl ]
one_entry hash at number n false = refl

pub how_often-push : (entries : List (ℕ × ℕ)) (hash number at n : ℕ) → how_often (entries ++ (hash, number) ∷ []) at n ≡ how_often entries at n + cond ((hash == at) && (n == number)) 1 0
how_often-push entries hash number at n =
    ap (times (λ m. n == m)) (numbers_of-append entries ((hash, number) ∷ []) at)
    ∙ times-append (λ m. n == m) (numbers_of entries at) (numbers_of ((hash, number) ∷ []) at)
    ∙ ap (λ k. how_often entries at n + k) (one_entry hash at number n (hash == at))

-- a number is listed unless it is there
pub listed_before : (entries : List (ℕ × ℕ)) (class attribute c a : ℕ) → 0 < how_often entries class attribute → how_often entries c a ≡ cond ((class == c) && (attribute == a)) (max 1 (how_often entries c a)) (how_often entries c a)
listed_before entries class attribute c a here = elim (cases_eq class c) [
  | inl same ↦ elim (cases_eq attribute a) [
    | inl equal ↦ (let some : 0 < how_often entries c a = rw (← same, ← equal) here in grind (arith, nat_tests, some))
    | inr other ↦ grind (arith, nat_tests, other)
  ]
  | inr other ↦ grind (arith, nat_tests, other)
]

pub listed_now : (entries : List (ℕ × ℕ)) (class attribute c a : ℕ) → how_often entries class attribute ≡ 0 → how_often (entries ++ (class, attribute) ∷ []) c a ≡ cond ((class == c) && (attribute == a)) (max 1 (how_often entries c a)) (how_often entries c a)
listed_now entries class attribute c a none = elim (cases_eq class c) [
  | inl same ↦ elim (cases_eq attribute a) [
    | inl equal ↦ (let zero : how_often entries c a ≡ 0 = rw (← same, ← equal) none in grind (arith, nat_tests, zero, how_often-push entries class attribute c a))
    | inr other ↦ grind (arith, nat_tests, other, how_often-push entries class attribute c a)
  ]
  | inr other ↦ grind (arith, nat_tests, other, how_often-push entries class attribute c a)
]

-- whether a number was found under a hash, by a walk along its bucket
pub found-how_often : (entries : List (ℕ × ℕ)) (hash at number : ℕ) (bucket : List ℕ) (found : Bool) → at ≡ hash → bucket ≡ reverse (numbers_of entries at) → found ≡ nat_lt 0 (times (λ n. number == n) bucket) → found ≡ nat_lt 0 (how_often entries hash number)
found-how_often entries hash at number bucket found same all is =
    is ∙ ap (λ ns. nat_lt 0 (times (λ n. number == n) ns)) all ∙ ap (nat_lt 0) (times-reverse (λ n. number == n) (numbers_of entries at)) ∙ ap (λ h. nat_lt 0 (how_often entries h number)) same

pub found-some : (entries : List (ℕ × ℕ)) (hash number : ℕ) → nat_lt 0 (how_often entries hash number) ≡ true → 0 < how_often entries hash number
found-some entries hash number is = ltb-true 0 (how_often entries hash number) is

pub found-none : (entries : List (ℕ × ℕ)) (hash number : ℕ) → nat_lt 0 (how_often entries hash number) ≡ false → how_often entries hash number ≡ 0
found-none entries hash number is = grind (arith, nat_tests, is)
