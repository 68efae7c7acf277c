-- What is asked of the elements of a store, slot by slot.
use Rattle.std.proofs.Common.{◌≡◌, ℕ, ◌+◌, ◌<◌, List, [], ◌∷◌, ◌||◌, drop, is_some, length, slice_index_or, suc, zero, ap, ◌∙◌, subst, arith}
use Rattle.std.specs.List.{AllByRecursion}
use Rattle.std.proofs.Math.Seq.{drop-cons}
use Rattle.std.proofs.lemmas.List.Folds.{list_any-append}
use Rattle.rule_base.specs.declared.condition.Cond.{Cond}
use Rattle.rule_base.specs.declared.element.Element.{Element}
use Rattle.rule_base.specs.Acceptance.{accepts}
use Rattle.rule_base.specs.Bindings.{Bindings}
use Rattle.rule_base.specs.Match.{accepts_some}
use Rattle.element_tests.specs.Asking.{MayAsk}
use Rattle.firing_core.specs.Matching.{MayFilter}
use Rattle.firing_core.specs.Store.{Stored, living, living_at}
use Rattle.firing_core.proofs.MatchingLemmas.{Each-split}
use Rattle.firing_core.proofs.StoredLemmas.{living_at-append}

-- what holds of each that lives at slots holds of what lives at one of them
Each-slot : (P : Element → Type 0) (s : Stored) (slots : List ℕ) (i : ℕ) → i < length slots → AllByRecursion P (living_at s slots) → AllByRecursion P (living s (slice_index_or slots i 0))
Each-slot P s [] i within each = absurd (omega (arith, within))
Each-slot P s (slot ∷ slots) zero within each = (Each-split P (living s slot) (living_at s slots) (subst (AllByRecursion P) (living_at-append s (slot ∷ []) slots) each)).0
Each-slot P s (slot ∷ slots) (suc i) within each = Each-slot P s slots i (omega (arith, within)) (Each-split P (living s slot) (living_at s slots) (subst (AllByRecursion P) (living_at-append s (slot ∷ []) slots) each)).1

-- so what may be asked of each that lives at places may be asked at one of them
pub MayFilter-slot : (cond : Cond) (s : Stored) (b : Bindings) (slots : List ℕ) (i : ℕ) → i < length slots → MayFilter cond (living_at s slots) b → MayFilter cond (living s (slice_index_or slots i 0)) b
MayFilter-slot cond s b slots i within may = record {
  asked = Each-slot (MayAsk cond b) s slots i within may.asked;
  placed = may.placed;
}

-- some element is accepted at the slots that are left where one is at the next slot or at the others
pub accepts_some-slot : (cond : Cond) (b : Bindings) (s : Stored) (slots : List ℕ) (i : ℕ) → i < length slots → accepts_some cond b (living_at s (drop i slots)) ≡ (accepts_some cond b (living s (slice_index_or slots i 0)) || accepts_some cond b (living_at s (drop (i + 1) slots)))
accepts_some-slot cond b s slots i within =
    let slot = slice_index_or slots i 0 in
    let next : suc i ≡ i + 1 = omega arith in
    ap (λ ps. accepts_some cond b (living_at s ps)) (drop-cons slots i 0 within ∙ ap (λ n. slot ∷ drop n slots) next)
    ∙ ap (accepts_some cond b) (living_at-append s (slot ∷ []) (drop (i + 1) slots))
    ∙ list_any-append (λ (e : Element). is_some (accepts cond b e)) (living s slot) (living_at s (drop (i + 1) slots))
