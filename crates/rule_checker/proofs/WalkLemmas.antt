-- One turn of a walk over a list: what is left after it, and what its refusal says of the whole.
use Rattle.std.proofs.Common.{◌≡◌, ℕ, ◌+◌, ◌<◌, List, length, get_or, drop, Result, Ok, Err, sym, ap, subst, ◌∙◌}
use Rattle.std.proofs.lemmas.List.{at_drop_more}
use Rattle.rule_base.specs.Chains.{◌>>=◌}
use Rattle.rule_checker.specs.declared.refusal.CheckKind.{CheckKind}
use Rattle.rule_checker.specs.declared.refusal.Refusal.{Refusal}
use Rattle.rule_checker.specs.declared.refusal.Refusal.TheVariants.{Violated}
use Rattle.rule_checker.specs.Walk.{after_each}
use Rattle.rule_checker.specs.Outcome.{Tells}

-- an element that passes leaves the rest of the walk
pub next_turn : {S A E : Type 0} (step : S → A → Result S E) (s t : S) (xs : List A) (i : ℕ) (d : A) (whole : Result S E)
    → step s (get_or xs i d) ≡ Ok t → i < length xs → after_each step s (drop i xs) ≡ whole → after_each step t (drop (i + 1) xs) ≡ whole
next_turn step s t xs i d whole passes within same =
    sym (at_drop_more (after_each step s) xs i d within ∙ ap (λ o. o >>= λ next. after_each step next (drop (i + 1) xs)) passes) ∙ same

-- an element that doesn't pass ends the walk
pub tells_turn : {S A : Type 0} (step : S → A → Result S CheckKind) (s : S) (xs : List A) (i : ℕ) (d : A) (whole : Result S CheckKind) (refusal : Refusal)
    → Tells (step s (get_or xs i d)) refusal → i < length xs → after_each step s (drop i xs) ≡ whole → Tells whole refusal
tells_turn step s xs i d whole refusal tells within same = record {
  violated = λ kind is. sym same ∙ at_drop_more (after_each step s) xs i d within ∙ ap (λ o. o >>= λ next. after_each step next (drop (i + 1) xs)) (tells.violated kind is);
}

-- the same, where the element has a name of its own
pub tells_item : {S A : Type 0} (step : S → A → Result S CheckKind) (s : S) (xs : List A) (i : ℕ) (a : A) (whole : Result S CheckKind) (refusal : Refusal)
    → Tells (step s a) refusal → a ≡ get_or xs i a → i < length xs → after_each step s (drop i xs) ≡ whole → Tells whole refusal
tells_item step s xs i a whole refusal tells is within same = tells_turn step s xs i a whole refusal (subst (λ x. Tells (step s x) refusal) is tells) within same

-- a violation is told
pub tells_kind : {A : Type 0} (defined : Result A CheckKind) (kind : CheckKind) → defined ≡ Err kind → Tells defined (Violated kind)
tells_kind defined kind is = record { violated = λ other same. is ∙ ap Err (let e : kind ≡ other = cc in e) }

-- what is refused first is refused in the end
pub tells_first : {A B : Type 0} (first : Result A CheckKind) (more : A → Result B CheckKind) (refusal : Refusal) → Tells first refusal → Tells (first >>= more) refusal
tells_first first more refusal tells = record { violated = λ kind is. ap (λ o. o >>= more) (tells.violated kind is) }

-- and so is what is refused behind something that passes
pub tells_second : {A B : Type 0} (first : Result A CheckKind) (a : A) (more : A → Result B CheckKind) (refusal : Refusal) → first ≡ Ok a → Tells (more a) refusal → Tells (first >>= more) refusal
tells_second first a more refusal passes tells = record { violated = λ kind is. ap (λ o. o >>= more) passes ∙ tells.violated kind is }
