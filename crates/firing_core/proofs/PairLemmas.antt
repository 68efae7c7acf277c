-- Lists in which each element and each later one are related: with some taken out, with one more, and with weaker relations.
use Rattle.std.proofs.Common.{◌≡◌, ℕ, ◌≤◌, suc, List, [], ◌∷◌, ◌++◌, Bool, true, false, cond, ◌⊎◌, inl, inr, length, refl, sym, ◌∙◌, subst, arith, ◌<◌, ◌^◌}
use Rattle.std.specs.List.{AllByRecursion, filter}
use Rattle.rule_base.proofs.AmongLemmas.{Among}
use Rattle.rule_base.proofs.EachLemmas.{Each-append, Each-filter}
use Rattle.interference.proofs.ListLemmas.{Each-among}
use Rattle.standing_claims.specs.declared.claim.Claim.{Claim}
use Rattle.firing_core.specs.CoreState.{CoreState}
use Rattle.firing_core.specs.Lawful.{AreLawfulClaims, EachPair, GoTogether, IsHeld}

filtered_first : {X : Type 0} (R : X → X → Type 0) (p : X → Bool) (x : X) (xs : List X) (b : Bool) → AllByRecursion (R x) (filter p xs) → EachPair R (filter p xs) → EachPair R (cond b (x ∷ filter p xs) (filter p xs))
filtered_first R p x xs true first rest = (first, rest)
filtered_first R p x xs false first rest = rest

pub EachPair-filter : {X : Type 0} (R : X → X → Type 0) (p : X → Bool) (xs : List X) → EachPair R xs → EachPair R (filter p xs)
EachPair-filter R p [] each = tt
EachPair-filter R p (x ∷ xs) each = filtered_first R p x xs (p x) (Each-filter (R x) p xs each.0) (EachPair-filter R p xs each.1)

pub EachPair-push : {X : Type 0} (R : X → X → Type 0) (xs : List X) (x : X) → EachPair R xs → AllByRecursion (λ earlier. R earlier x) xs → EachPair R (xs ++ x ∷ [])
EachPair-push R [] x each last = (tt, tt)
EachPair-push R (y ∷ xs) x each last = (Each-append (R y) xs (x ∷ []) each.0 (last.0, tt), EachPair-push R xs x each.1 last.1)

-- two that differ are related one way or the other
pub EachPair-two : {X : Type 0} (R : X → X → Type 0) (xs : List X) (x y : X) → EachPair R xs → Among x xs → Among y xs → (x ≡ y) ⊎ (R x y ⊎ R y x)
EachPair-two R [] x y each of_x of_y = absurd of_x
EachPair-two R (z ∷ xs) x y each (inl is_x) (inl is_y) = inl (is_x ∙ sym is_y)
EachPair-two R (z ∷ xs) x y each (inl is_x) (inr of_y) = inr (inl (subst (λ w. R w y) (sym is_x) (Each-among (R z) xs y each.0 of_y)))
EachPair-two R (z ∷ xs) x y each (inr of_x) (inl is_y) = inr (inr (subst (λ w. R w x) (sym is_y) (Each-among (R z) xs x each.0 of_x)))
EachPair-two R (z ∷ xs) x y each (inr of_x) (inr of_y) = EachPair-two R xs x y each.1 of_x of_y

-- a filter leaves no more
shorter_first : {X : Type 0} (x : X) (ys : List X) (n : ℕ) (b : Bool) → length ys ≤ n → length (cond b (x ∷ ys) ys) ≤ suc n
shorter_first x ys n true few = omega (arith, few)
shorter_first x ys n false few = omega (arith, few)

pub length-filter : {X : Type 0} (p : X → Bool) (xs : List X) → length (filter p xs) ≤ length xs
length-filter p [] = omega arith
length-filter p (x ∷ xs) = shorter_first x (filter p xs) (length xs) (p x) (length-filter p xs)

-- and what it leaves passed, and was there
left_first : {X : Type 0} (p : X → Bool) (x y : X) (xs : List X) (b : Bool) → p y ≡ b → Among x (cond b (y ∷ filter p xs) (filter p xs)) → (Among x (filter p xs) → (p x ≡ true) × Among x xs) → (p x ≡ true) × Among x (y ∷ xs)
left_first p x y xs true is (inl same) later = (subst (λ z. p z ≡ true) (sym same) is, inl same)
left_first p x y xs true is (inr rest) later = let found = later rest in (found.0, inr found.1)
left_first p x y xs false is rest later = let found = later rest in (found.0, inr found.1)

pub Among-filtered : {X : Type 0} (p : X → Bool) (x : X) (xs : List X) → Among x (filter p xs) → (p x ≡ true) × Among x xs
Among-filtered p x [] among = absurd among
Among-filtered p x (y ∷ xs) among = left_first p x y xs (p y) refl among (Among-filtered p x xs)

-- a core without claims
pub AreLawful-none : (k : CoreState) → k.claims ≡ [] → k.given < 2 ^ 64 → AreLawfulClaims k
AreLawful-none k none few = record {
  held = subst (AllByRecursion (IsHeld k.program k.state)) (sym none) tt;
  numbered = subst (AllByRecursion (λ (claim : Claim). (1 ≤ claim.number) × (claim.number ≤ k.given))) (sym none) tt;
  together = subst (EachPair (GoTogether k.program)) (sym none) tt;
  few_claims = subst (λ (claims : List Claim). length claims ≤ 4095) (sym none) (omega arith);
  few_given = few;
}
