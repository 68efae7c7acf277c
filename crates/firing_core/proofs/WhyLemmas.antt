-- What a call that claims tells where it makes no claim.
use Rattle.std.proofs.Common.{◌≡◌, ◌↔◌, ℕ, suc, ◌∙◌, List, [], ◌∷◌, Bool, true, false, Option, None, Some, Result, Err, Ok, IfErr, inl, inr, length, option_map, slice_get, refl, ap, arith}
use Rattle.std.specs.List.{AllByRecursion}
use Rattle.std.specs.Result.{IsErrAnd}
use Rattle.rule_base.specs.declared.instantiation.Candidate.{Candidate}
use Rattle.rule_base.specs.declared.lock.Busy.{Busy}
use Rattle.rule_base.specs.declared.lock.Mode.{Mode}
use Rattle.rule_base.specs.Chains.{only_if, first_answer}
use Rattle.rule_base.specs.State.{has_fired}
use Rattle.rule_base.proofs.EachLemmas.{Each-map, Each-slice_get}
use Rattle.interference.specs.Footprint.{Clash, footprint}
use Rattle.interference.proofs.WordLemmas.{words_tell_clashes}
use Rattle.standing_claims.specs.declared.claim.Claim.{Claim}
use Rattle.standing_claims.specs.Standing.{claim_of_choice, is_full}
use Rattle.firing_core.specs.declared.claims.ClaimRefusal.{ClaimRefusal}
use Rattle.firing_core.specs.declared.claims.ClaimRefusal.TheVariants as refusal
use Rattle.firing_core.specs.Answers.{TellsWhy}
use Rattle.firing_core.specs.Clear.{IsClear, IsNotBusy}
use Rattle.firing_core.specs.CoreState.{CoreState, ended}
use Rattle.firing_core.specs.Refusals.{busy_lock, claim_refusal, claimed_footprints, failing_condition, gone_tag}
use Rattle.firing_core.specs.Lawful.{IsLawful}
use Rattle.firing_core.proofs.ClaimLemmas.{Rises-footprint, clear_of_claims, length-map_claims}

-- want of memory
pub told_memory : {X : Type 0} (k : CoreState) (candidate : Candidate) (r : Result X ClaimRefusal) → IsErrAnd r (λ told. told ≡ refusal.OutOfMemory) → IfErr r (TellsWhy k candidate)
told_memory k candidate (Ok x) is = tt
told_memory k candidate (Err told) is = inl is

pub memory_not_busy : {X : Type 0} (r : Result X ClaimRefusal) → IsErrAnd r (λ told. told ≡ refusal.OutOfMemory) → IfErr r IsNotBusy
memory_not_busy (Ok x) is = tt
memory_not_busy (Err told) is = λ busy is_busy. let wrong : ⊥ = cc in wrong

-- a refusal of another kind, where no lock is busy
first_other : (o : Option ClaimRefusal) (os : List (Option ClaimRefusal)) (busy : Busy) → (o ≡ Some (refusal.Busy busy) → ⊥) → first_answer (λ o. o) (o ∷ os) ≡ Some (refusal.Busy busy) → first_answer (λ o. o) os ≡ Some (refusal.Busy busy)
first_other None os busy other is = is
first_other (Some told) os busy other is = absurd (other is)

mapped_other : {A : Type 0} (f : A → ClaimRefusal) (o : Option A) (busy : Busy) → ((a : A) → f a ≡ refusal.Busy busy → ⊥) → option_map f o ≡ Some (refusal.Busy busy) → ⊥
mapped_other f None busy other is = let wrong : ⊥ = cc in wrong
mapped_other f (Some a) busy other is = other a (let same : f a ≡ refusal.Busy busy = cc in same)

held_other : (b : Bool) (told : ClaimRefusal) (busy : Busy) → (told ≡ refusal.Busy busy → ⊥) → only_if b told ≡ Some (refusal.Busy busy) → ⊥
held_other true told busy other is = other (let same : told ≡ refusal.Busy busy = cc in same)
held_other false told busy other is = let wrong : ⊥ = cc in wrong

pub not_busy_told : (k : CoreState) (candidate : Candidate) (told : ClaimRefusal) → busy_lock k candidate ≡ None → claim_refusal k candidate ≡ Some told → IsNotBusy told
not_busy_told k candidate told free is busy is_busy =
    let claimed = option_map (λ (claim : Claim). refusal.Claimed claim.number) (claim_of_choice k.claims candidate.choice) in
    let full = only_if (is_full k.given (length k.claims)) (refusal.Full k.given (length k.claims)) in
    let fired = only_if (has_fired k.state candidate.choice) refusal.Fired in
    let unmatched = option_map refusal.Unmatched (failing_condition k.program k.state.memory candidate.choice) in
    let gone = option_map refusal.Gone (gone_tag k.state.memory candidate.elements) in
    let over = option_map refusal.Ended (ended k) in
    let told_is : claim_refusal k candidate ≡ Some (refusal.Busy busy) = is ∙ ap (λ t. Some t) is_busy in
    let none : option_map refusal.Busy (busy_lock k candidate) ≡ None = ap (option_map refusal.Busy) free in
    let zero = first_other (option_map refusal.Busy (busy_lock k candidate)) (over ∷ gone ∷ unmatched ∷ fired ∷ claimed ∷ full ∷ []) busy (λ at. none_is_not (option_map refusal.Busy (busy_lock k candidate)) none at) told_is in
    let one = first_other over (gone ∷ unmatched ∷ fired ∷ claimed ∷ full ∷ []) busy (mapped_other refusal.Ended (ended k) busy (λ how same. let wrong : ⊥ = cc in wrong)) zero in
    let two = first_other gone (unmatched ∷ fired ∷ claimed ∷ full ∷ []) busy (mapped_other refusal.Gone (gone_tag k.state.memory candidate.elements) busy (λ tag same. let wrong : ⊥ = cc in wrong)) one in
    let three = first_other unmatched (fired ∷ claimed ∷ full ∷ []) busy (mapped_other refusal.Unmatched (failing_condition k.program k.state.memory candidate.choice) busy (λ n same. let wrong : ⊥ = cc in wrong)) two in
    let four = first_other fired (claimed ∷ full ∷ []) busy (held_other (has_fired k.state candidate.choice) refusal.Fired busy (λ same. let wrong : ⊥ = cc in wrong)) three in
    let five = first_other claimed (full ∷ []) busy (mapped_other (λ (claim : Claim). refusal.Claimed claim.number) (claim_of_choice k.claims candidate.choice) busy (λ claim same. let wrong : ⊥ = cc in wrong)) four in
    let six = first_other full [] busy (held_other (is_full k.given (length k.claims)) (refusal.Full k.given (length k.claims)) busy (λ same. let wrong : ⊥ = cc in wrong)) five in
    let wrong : ⊥ = cc in wrong
  where
    none_is_not : (o : Option ClaimRefusal) → o ≡ None → o ≡ Some (refusal.Busy busy) → ⊥
    none_is_not o none some = let wrong : ⊥ = cc in wrong

-- a busy lock is told first
pub told_busy : (k : CoreState) (candidate : Candidate) (busy : Busy) → busy_lock k candidate ≡ Some busy → TellsWhy k candidate (refusal.Busy busy)
told_busy k candidate busy is =
    let over = option_map refusal.Ended (ended k) in
    let gone = option_map refusal.Gone (gone_tag k.state.memory candidate.elements) in
    let unmatched = option_map refusal.Unmatched (failing_condition k.program k.state.memory candidate.choice) in
    let fired = only_if (has_fired k.state candidate.choice) refusal.Fired in
    let claimed = option_map (λ (claim : Claim). refusal.Claimed claim.number) (claim_of_choice k.claims candidate.choice) in
    let full = only_if (is_full k.given (length k.claims)) (refusal.Full k.given (length k.claims)) in
    inr (ap (λ (o : Option Busy). first_answer (λ x. x) (option_map refusal.Busy o ∷ over ∷ gone ∷ unmatched ∷ fired ∷ claimed ∷ full ∷ [])) is)

-- what holds of each item of a list holds of all
each_from : {X : Type 0} (P : X → Type 0) (xs : List X) → ((at : ℕ) (x : X) → slice_get xs at ≡ Some x → P x) → AllByRecursion P xs
each_from P [] each = tt
each_from P (x ∷ xs) each = (each 0 x refl, each_from P xs (λ at y is. each (suc at) y is))

-- no lock is busy for a candidate that is clear
pub clear_not_busy : (k : CoreState) (candidate : Candidate) → IsLawful k → IsClear k candidate → busy_lock k candidate ≡ None
clear_not_busy k candidate lawful clear =
    let by : Claim → List (ℕ × Mode) = λ (claim : Claim). footprint k.program claim.candidate in
    let asked = footprint k.program candidate in
    let each = each_from (λ (claim : Claim). Clash (by claim) asked → ⊥) k.claims clear in
    (words_tell_clashes (claimed_footprints k) asked (omega (arith, lawful.claims.few_claims, length-map_claims by k.claims)) (Rises-footprint k.program candidate)).1
    (Each-map (λ (other : List (ℕ × Mode)). Clash other asked → ⊥) by k.claims each)

-- and the other way round
pub locks_tell_clashes : (k : CoreState) (candidate : Candidate) → IsLawful k → (busy_lock k candidate ≡ None) ↔ IsClear k candidate
locks_tell_clashes k candidate lawful =
    let asked = footprint k.program candidate in
    let apart : Claim → Type 0 = λ (claim : Claim). Clash (footprint k.program claim.candidate) asked → ⊥ in
    (λ none. λ at claim is. Each-slice_get apart k.claims at claim (clear_of_claims k candidate lawful.claims.few_claims none) is, clear_not_busy k candidate lawful)
