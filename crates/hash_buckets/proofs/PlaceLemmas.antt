-- The last of the first n places that passes a test.
use Rattle.std.proofs.Common.{◌≡◌, inl, inr, ℕ, zero, suc, ◌<◌, ◌≤◌, Bool, true, false, cond, refl, ap, sym, ◌∙◌, arith}
use Rattle.std.proofs.lemmas.Bool.{cases_eq, cases_lt}
use Rattle.hash_buckets.specs.Links.{last_place}

within_step : (b : Bool) (n last : ℕ) → last ≤ n → cond b (suc n) last ≤ suc n
within_step true n last le = omega arith
within_step false n last le = omega (arith, le)

pub last_place-within : (test : ℕ → Bool) (n : ℕ) → last_place test n ≤ n
last_place-within test zero = omega arith
last_place-within test (suc n) = within_step (test n) n (last_place test n) (last_place-within test n)

-- it passes
passes_step : (test : ℕ → Bool) (n i : ℕ) (b : Bool) → test n ≡ b → cond b (suc n) (last_place test n) ≡ suc i → (last_place test n ≡ suc i → test i ≡ true) → test i ≡ true
passes_step test n i true here is before = let same : n ≡ i = omega (arith, is) in ap test (sym same) ∙ here
passes_step test n i false here is before = before is

pub last_place-passes : (test : ℕ → Bool) (n i : ℕ) → last_place test n ≡ suc i → test i ≡ true
last_place-passes test zero i is = absurd (let wrong : ⊥ = omega (arith, is) in wrong)
last_place-passes test (suc n) i is = passes_step test n i (test n) refl is (last_place-passes test n i)

-- what comes after it doesn't
skips_step : (test : ℕ → Bool) (n i : ℕ) (b : Bool) → test n ≡ b → cond b (suc n) (last_place test n) ≤ i → i < suc n → (last_place test n ≤ i → i < n → test i ≡ false) → test i ≡ false
skips_step test n i true here le lt before = absurd (let wrong : ⊥ = omega (arith, le, lt) in wrong)
skips_step test n i false here le lt before = elim (cases_eq i n) [ inl same ↦ ap test same ∙ here | inr other ↦ before le (omega (arith, lt, other)) ]

pub last_place-skips : (test : ℕ → Bool) (n i : ℕ) → last_place test n ≤ i → i < n → test i ≡ false
last_place-skips test zero i le lt = absurd (let wrong : ⊥ = omega (arith, lt) in wrong)
last_place-skips test (suc n) i le lt = skips_step test n i (test n) refl le lt (last_place-skips test n i)

-- what passes is no later
pub last_place-after : (test : ℕ → Bool) (n i : ℕ) → test i ≡ true → i < n → i < last_place test n
last_place-after test n i passes lt = elim (cases_lt i (last_place test n)) [ inl less ↦ less | inr le ↦ absurd (let skipped = last_place-skips test n i le lt in let wrong : ⊥ = cc in wrong) ]

-- what passes is the last of those up to it
pub last_place-here : (test : ℕ → Bool) (i : ℕ) → test i ≡ true → last_place test (suc i) ≡ suc i
last_place-here test i passes = ap (λ (b : Bool). cond b (suc i) (last_place test i)) passes

-- up to the last one, it is the last one
again_step : (test : ℕ → Bool) (n : ℕ) (b : Bool) → test n ≡ b → last_place test (last_place test n) ≡ last_place test n → last_place test (cond b (suc n) (last_place test n)) ≡ cond b (suc n) (last_place test n)
again_step test n true here before = last_place-here test n here
again_step test n false here before = before

pub last_place-again : (test : ℕ → Bool) (n : ℕ) → last_place test (last_place test n) ≡ last_place test n
last_place-again test zero = refl
last_place-again test (suc n) = again_step test n (test n) refl (last_place-again test n)

-- tests that agree have the same last place
pub last_place-same : (s t : ℕ → Bool) (n : ℕ) → ((i : ℕ) → i < n → s i ≡ t i) → last_place s n ≡ last_place t n
last_place-same s t zero same = refl
last_place-same s t (suc n) same =
    ap (λ (b : Bool). cond b (suc n) (last_place s n)) (same n (omega arith))
    ∙ ap (λ (last : ℕ). cond (t n) (suc n) last) (last_place-same s t n (λ i lt. same i (omega (arith, lt))))

-- where one test passes the same places as the other but for one: either the last place is that one, and
-- the last before it comes in its place
pub record IsWithout (p : ℕ) (s t : ℕ → Bool) : Type 0 where
  pub gone : s p ≡ false
  pub others : (i : ℕ) → (i ≡ p → ⊥) → s i ≡ t i

fails_step : (s t : ℕ → Bool) (p n : ℕ) → IsWithout p s t → t n ≡ false → s n ≡ false
fails_step s t p n without here = elim (cases_eq n p) [ inl same ↦ ap s same ∙ without.gone | inr other ↦ without.others n other ∙ here ]

moves_step : (s t : ℕ → Bool) (p n : ℕ) (b : Bool) → IsWithout p s t → t n ≡ b → cond b (suc n) (last_place t n) ≡ suc p → (last_place t n ≡ suc p → last_place s n ≡ last_place t p) → last_place s (suc n) ≡ last_place t p
moves_step s t p n true without here is before =
    let same : n ≡ p = omega (arith, is) in
    ap (λ (b : Bool). cond b (suc n) (last_place s n)) (ap s same ∙ without.gone)
    ∙ ap (last_place s) same
    ∙ last_place-same s t p (λ i lt. without.others i (λ e. let wrong : ⊥ = omega (arith, e, lt) in wrong))
moves_step s t p n false without here is before = ap (λ (b : Bool). cond b (suc n) (last_place s n)) (fails_step s t p n without here) ∙ before is

pub last_place-moves : (s t : ℕ → Bool) (p n : ℕ) → IsWithout p s t → last_place t n ≡ suc p → last_place s n ≡ last_place t p
last_place-moves s t p zero without is = absurd (let wrong : ⊥ = omega (arith, is) in wrong)
last_place-moves s t p (suc n) without is = moves_step s t p n (t n) without refl is (last_place-moves s t p n without)

-- or it is another, and stays
stays_step : (s t : ℕ → Bool) (p n : ℕ) (b : Bool) → IsWithout p s t → t n ≡ b → (cond b (suc n) (last_place t n) ≡ suc p → ⊥) → ((last_place t n ≡ suc p → ⊥) → last_place s n ≡ last_place t n) → last_place s (suc n) ≡ cond b (suc n) (last_place t n)
stays_step s t p n true without here other before =
    ap (λ (b : Bool). cond b (suc n) (last_place s n)) (without.others n (λ e. other (ap suc e)) ∙ here)
stays_step s t p n false without here other before = ap (λ (b : Bool). cond b (suc n) (last_place s n)) (fails_step s t p n without here) ∙ before other

pub last_place-stays : (s t : ℕ → Bool) (p n : ℕ) → IsWithout p s t → (last_place t n ≡ suc p → ⊥) → last_place s n ≡ last_place t n
last_place-stays s t p zero without other = refl
last_place-stays s t p (suc n) without other = stays_step s t p n (t n) without refl other (last_place-stays s t p n without)
