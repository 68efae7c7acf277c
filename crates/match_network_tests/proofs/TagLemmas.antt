-- What is above the last tag is above all.
use Rattle.std.proofs.Common.{◌≡◌, ℕ, ◌+◌, ◌<◌, List, [], ◌∷◌, Some, length, slice_get, suc, zero, sym, subst, arith}
use Rattle.std.specs.List.{AllByRecursion}
use Rattle.rule_base.specs.declared.element.Element.{Element}
use Rattle.rule_base.specs.Memory.{Rises, RisesFrom, tags_of}
use Rattle.rule_base.proofs.MemoryLemmas.{Rises-from_above}

above_first : (low i : ℕ) (came : List Element) (last : Element) → RisesFrom low (tags_of came) → slice_get came i ≡ Some last → low < last.tag
above_first low i [] last rises at = absurd (let wrong : ⊥ = cc in wrong)
above_first low zero (e ∷ came) last rises at = let same : e ≡ last = cc in subst (λ (x : Element). low < x.tag) same rises.0
above_first low (suc i) (e ∷ came) last rises at =
    let further = above_first e.tag i came last rises.1 at in
    omega (arith, rises.0, further)

-- the last element of those whose tags rise
pub all_below-last : (i : ℕ) (came : List Element) (last : Element) → Rises (tags_of came) → length came ≡ i + 1 → slice_get came i ≡ Some last → AllByRecursion (λ (e : Element). e.tag < last.tag + 1) came
all_below-last i [] last rises long at = tt
all_below-last zero (e ∷ []) last rises long at =
    let same : e ≡ last = cc in
    (subst (λ (x : Element). x.tag < last.tag + 1) (sym same) (omega arith), tt)
all_below-last zero (e ∷ f ∷ came) last rises long at = absurd (omega (arith, long))
all_below-last (suc i) (e ∷ came) last rises long at =
    let further = above_first e.tag i came last rises at in
    (omega (arith, further), all_below-last i came last (Rises-from_above e.tag (tags_of came) rises) (omega (arith, long)) at)

pub all_below-none : (came : List Element) (tag : ℕ) → length came ≡ 0 → AllByRecursion (λ (e : Element). e.tag < tag) came
all_below-none [] tag none = tt
all_below-none (e ∷ came) tag none = absurd (omega (arith, none))
