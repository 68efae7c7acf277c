-- Whether elements and tags agree, one after another.
use Rattle.std.proofs.Common.{◌≡◌, ℕ, ◌+◌, ◌<◌, List, ◌∷◌, Bool, true, false, ◌&&◌, Some, drop, length, slice_get, slice_index, suc, ◌==◌, refl, ◌∙◌, ap, arith, drop-cons}
use Rattle.std.proofs.lemmas.Bool.Decides.{Decides-eqb}
use Rattle.rule_base.specs.declared.element.Element.{Element}
use Rattle.rule_base.specs.Memory.{tags_of}
use Rattle.rule_base.proofs.StepByStepLemmas.{drop_next}
use Rattle.rule_base.specs.Numbers.{same_numbers}

tags_at : (elements : List Element) (tags : List ℕ) (at : ℕ) (e : Element) → slice_get elements at ≡ Some e → at < length tags → same_numbers (tags_of (drop at elements)) (drop at tags) ≡ ((e.tag == slice_index tags at) && same_numbers (tags_of (drop (at + 1) elements)) (drop (at + 1) tags))
tags_at elements tags at e is within =
    let next : suc at ≡ at + 1 = omega arith in
    ap (λ es. same_numbers (tags_of es) (drop at tags)) (drop_next elements at e is)
    ∙ ap (same_numbers (tags_of (e ∷ drop (at + 1) elements))) (drop-cons tags at 0 within)
    ∙ ap (λ n. same_numbers (tags_of (e ∷ drop (at + 1) elements)) (slice_index tags at ∷ drop n tags)) next

by_test : (b rest : Bool) → b ≡ true → (b && rest) ≡ rest
by_test true rest is = refl
by_test false rest is = absurd (let wrong : ⊥ = cc in wrong)

not_true : (b rest : Bool) → (b ≡ true → ⊥) → (b && rest) ≡ false
not_true true rest never = absurd (never refl)
not_true false rest never = refl

-- a tag that is the element's leaves the question to the rest
pub tags_agree : (elements : List Element) (tags : List ℕ) (at : ℕ) (e : Element) → slice_get elements at ≡ Some e → at < length tags → e.tag ≡ slice_index tags at → same_numbers (tags_of (drop at elements)) (drop at tags) ≡ same_numbers (tags_of (drop (at + 1) elements)) (drop (at + 1) tags)
tags_agree elements tags at e is within same = tags_at elements tags at e is within ∙ by_test (e.tag == slice_index tags at) _ ((Decides-eqb e.tag (slice_index tags at)).1 same)

-- and one that isn't decides it
pub tags_differ : (elements : List Element) (tags : List ℕ) (at : ℕ) (e : Element) → slice_get elements at ≡ Some e → at < length tags → (e.tag ≡ slice_index tags at → ⊥) → same_numbers (tags_of (drop at elements)) (drop at tags) ≡ false
tags_differ elements tags at e is within differ = tags_at elements tags at e is within ∙ not_true (e.tag == slice_index tags at) _ (λ test. differ ((Decides-eqb e.tag (slice_index tags at)).0 test))
