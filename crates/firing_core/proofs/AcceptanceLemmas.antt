-- Whether a condition element accepts some element, element by element.
use Rattle.std.proofs.Common.{◌≡◌, ℕ, ◌+◌, List, [], ◌∷◌, ◌++◌, Bool, true, false, ◌||◌, Some, None, is_some, slice_get, suc, take, zero, refl, ◌∙◌, ap}
use Rattle.std.specs.List.{list_any}
use Rattle.rule_base.specs.declared.condition.Cond.{Cond}
use Rattle.rule_base.specs.declared.element.Element.{Element}
use Rattle.rule_base.specs.Memory.{Memory}
use Rattle.rule_base.specs.Bindings.{Bindings}
use Rattle.rule_base.specs.Acceptance.{accepts}
use Rattle.rule_base.specs.Match.{accepts_some}
use Rattle.rule_base.proofs.StepByStepLemmas.{take_next}

any_at : {X : Type 0} (p : X → Bool) (xs : List X) (at : ℕ) (x : X) → slice_get xs at ≡ Some x → p x ≡ true → list_any p xs ≡ true
any_at p [] at x is passes = absurd (let wrong : ⊥ = cc in wrong)
any_at p (y ∷ xs) zero x is passes = let same : y ≡ x = cc in first (p y) (list_any p xs) (ap p same ∙ passes)
  where
    first : (b rest : Bool) → b ≡ true → (b || rest) ≡ true
    first true rest e = refl
    first false rest e = absurd (let wrong : ⊥ = cc in wrong)
any_at p (y ∷ xs) (suc at) x is passes = later (p y) (list_any p xs) (any_at p xs at x is passes)
  where
    later : (b rest : Bool) → rest ≡ true → (b || rest) ≡ true
    later true rest e = refl
    later false rest e = e

-- an element that is accepted
pub accepts_some-here : (cond : Cond) (bindings after : Bindings) (memory : Memory) (at : ℕ) (e : Element) → slice_get memory at ≡ Some e → accepts cond bindings e ≡ Some after → accepts_some cond bindings memory ≡ true
accepts_some-here cond bindings after memory at e is accepted = any_at (λ (x : Element). is_some (accepts cond bindings x)) memory at e is (ap is_some accepted)

none_more : {X : Type 0} (p : X → Bool) (xs : List X) (x : X) → list_any p xs ≡ false → p x ≡ false → list_any p (xs ++ x ∷ []) ≡ false
none_more p [] x none fails = either (p x) fails
  where
    either : (b : Bool) → b ≡ false → (b || false) ≡ false
    either false e = refl
    either true e = absurd (let wrong : ⊥ = cc in wrong)
none_more p (y ∷ xs) x none fails = both (p y) (list_any p xs) none (λ rest. none_more p xs x rest fails)
  where
    both : (b rest : Bool) → (b || rest) ≡ false → (rest ≡ false → list_any p (xs ++ x ∷ []) ≡ false) → (b || list_any p (xs ++ x ∷ [])) ≡ false
    both false rest e later = later e
    both true rest e later = absurd (let wrong : ⊥ = cc in wrong)

-- one more that is not
pub accepts_some-passed : (cond : Cond) (bindings : Bindings) (memory : Memory) (at : ℕ) (e : Element) → slice_get memory at ≡ Some e → accepts cond bindings e ≡ None → accepts_some cond bindings (take at memory) ≡ false → accepts_some cond bindings (take (at + 1) memory) ≡ false
accepts_some-passed cond bindings memory at e is refused none =
    ap (accepts_some cond bindings) (take_next memory at e is) ∙ none_more (λ (x : Element). is_some (accepts cond bindings x)) (take at memory) e none (ap is_some refused)
