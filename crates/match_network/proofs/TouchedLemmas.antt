-- What weaving an element in leaves as it was, and what is due.
use Rattle.std.proofs.Common.{◌≡◌, ℕ, zero, suc, ◌==◌, ◌||◌, List, [], ◌∷◌, Bool, true, false, map, Some, refl, ap, sym, ◌∙◌, set, slice_get}
use Rattle.std.specs.List.{list_any}
use Rattle.std.proofs.lemmas.Bool.{eq-eqb}
use Rattle.rule_base.specs.declared.element.Element.{Element}
use Rattle.alpha_memory.specs.Stores.{Store}
use Rattle.match_network.specs.declared.askers.Asker.{Asker}
use Rattle.match_network.specs.Rules.{IsStep, RuleRows}
use Rattle.match_network.specs.Touched.{AreTouched, is_of}
use Rattle.match_network.proofs.DueLemmas.{set_other}
use Rattle.match_network.proofs.StoreLemmas.{AreCleaned-more, AreCleaned-none}

-- one of those that none passes doesn't pass
or_false : (a b : Bool) → (a || b) ≡ false → (a ≡ false) × (b ≡ false)
or_false true b none = absurd (let wrong : ⊥ = cc in wrong)
or_false false b none = (refl, none)

none_at : (test : Asker → Bool) (xs : List Asker) (n : ℕ) (x : Asker) → slice_get xs n ≡ Some x → list_any test xs ≡ false → test x ≡ false
none_at test [] n x there none = absurd (let wrong : ⊥ = cc in wrong)
none_at test (y ∷ xs) zero x there none =
    let same : y ≡ x = cc in
    ap test (sym same) ∙ (or_false (test y) (list_any test xs) none).0
none_at test (y ∷ xs) (suc n) x there none = none_at test xs n x there (or_false (test y) (list_any test xs) none).1

-- a part that is written as it was
set_part : {X : Type 0} (part : RuleRows → X) (rules : List RuleRows) (n : ℕ) (before after : RuleRows) → slice_get rules n ≡ Some before → part after ≡ part before → map part (set rules n after) ≡ map part rules
set_part part [] n before after there same = refl
set_part part (first ∷ rules) zero before after there same =
    let is : first ≡ before = cc in
    ap (λ x. x ∷ map part rules) (same ∙ ap part (sym is))
set_part part (first ∷ rules) (suc n) before after there same = ap (λ xs. part first ∷ xs) (set_part part rules n before after there same)

pub touched_none : (places : List ℕ) (due : List Asker) (alpha : List Store) (rules : List RuleRows) → AreTouched places due alpha alpha rules rules
touched_none places due alpha rules = record { others = λ number none. refl; negated = refl; cleaned = AreCleaned-none places alpha }

pub touched_more : (came : List Element) (places : List ℕ) (place : ℕ) (alpha begun more : List Store) (due : List Asker) (n : ℕ) (asker : Asker) (old now new : List RuleRows) → slice_get due n ≡ Some asker → IsStep came places place asker.rule begun more now new → AreTouched places due alpha begun old now → AreTouched places due alpha more old new
touched_more came places place alpha begun more due n asker old now new there step held = record {
  others = λ number none.
      ap (λ rs. slice_get rs number) step.is
      ∙ set_other now asker.rule number step.after (λ same. apart number none same)
      ∙ held.others number none;
  negated = ap (map (λ (r : RuleRows). r.negated)) step.is
      ∙ set_part (λ (r : RuleRows). r.negated) now asker.rule step.before step.after step.before_is step.negated
      ∙ held.negated;
  cleaned = AreCleaned-more places alpha begun more held.cleaned step.cleaned;
}
  where
    apart : (number : ℕ) → list_any (is_of number) due ≡ false → number ≡ asker.rule → ⊥
    apart number none same =
        let no : (asker.rule == number) ≡ false = none_at (is_of number) due n asker there none in
        let yes : (asker.rule == number) ≡ true = eq-eqb asker.rule number (sym same) in
        let wrong : ⊥ = cc in wrong
