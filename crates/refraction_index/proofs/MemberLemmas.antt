-- Elements of lists that are joined and filtered, and what holds of each element of a list.
use Rattle.std.proofs.Common.{◌≡◌, List, [], ◌∷◌, ◌++◌, Bool, true, false, cond, ◌||◌, inl, inr, refl, sym, subst, ◌⊎◌}
use Rattle.std.specs.List.{AllByRecursion, filter, list_any}
use Rattle.rule_base.specs.declared.instantiation.Choice.{Choice}
use Rattle.rule_base.specs.State.{same_choice}
use Rattle.rule_base.proofs.AmongLemmas.{Among}
use Rattle.rule_base.proofs.ChoiceLemmas.{same_choice-equal}
use Rattle.rule_base.proofs.EachLemmas.{Each-weaker}

pub Among-either : {X : Type 0} (x : X) (xs ys : List X) → Among x (xs ++ ys) → Among x xs ⊎ Among x ys
Among-either x [] ys among = inr among
Among-either x (y ∷ xs) ys (inl same) = inl (inl same)
Among-either x (y ∷ xs) ys (inr later) = either_later (Among-either x xs ys later)
  where
    either_later : Among x xs ⊎ Among x ys → Among x (y ∷ xs) ⊎ Among x ys
    either_later (inl there) = inl (inr there)
    either_later (inr there) = inr there

among_first : {X : Type 0} (b : Bool) (x y : X) (kept xs : List X) → (Among x kept → Among x xs) → Among x (cond b (y ∷ kept) kept) → Among x (y ∷ xs)
among_first true x y kept xs later (inl same) = inl same
among_first true x y kept xs later (inr there) = inr (later there)
among_first false x y kept xs later there = inr (later there)

pub Among-filter : {X : Type 0} (p : X → Bool) (x : X) (xs : List X) → Among x (filter p xs) → Among x xs
Among-filter p x [] among = among
Among-filter p x (y ∷ xs) among = among_first (p y) x y (filter p xs) xs (Among-filter p x xs) among

pub Each-among : {X : Type 0} (P : X → Type 0) (x : X) (xs : List X) → AllByRecursion P xs → Among x xs → P x
Each-among P x [] each among = absurd among
Each-among P x (y ∷ xs) each (inl same) = subst P (sym same) each.0
Each-among P x (y ∷ xs) each (inr later) = Each-among P x xs each.1 later

pub AllAmong-itself : {X : Type 0} (xs : List X) → AllByRecursion (λ x. Among x xs) xs
AllAmong-itself [] = tt
AllAmong-itself (x ∷ xs) = (inl refl, Each-weaker (λ y. Among y xs) (λ y. Among y (x ∷ xs)) (λ y there. inr there) xs (AllAmong-itself xs))

-- what holds of each of some choices holds of one that is among them
any_first : (P : Choice → Type 0) (c d : Choice) (b later : Bool) → P d → (later ≡ true → P c) → same_choice c d ≡ b → (b || later) ≡ true → P c
any_first P c d true later of_d of_rest same is = subst P (sym (same_choice-equal c d same)) of_d
any_first P c d false later of_d of_rest same is = of_rest is

pub Each-any : (P : Choice → Type 0) (c : Choice) (choices : List Choice) → AllByRecursion P choices → list_any (same_choice c) choices ≡ true → P c
Each-any P c [] each any = absurd (let wrong : ⊥ = cc in wrong)
Each-any P c (d ∷ choices) each any = any_first P c d (same_choice c d) (list_any (same_choice c) choices) each.0 (Each-any P c choices each.1) refl any
