-- Events keep a core lawful.
use Rattle.std.proofs.Common.{◌≡◌, ℕ, ◌+◌, ◌≤◌, List, [], ◌∷◌, ◌++◌, Bool, true, false, not, Option, Some, None, Ok, Err, Result, ◌⊎◌, inl, inr, filter, is_none, is_some, length, option_and_then, ◌==◌, refl, sym, ◌∙◌, ap, subst, arith, append-nil, append_assoc}
use Rattle.std.specs.Result.{result_err}
use Rattle.std.proofs.lemmas.Bool.Decides.{Decides-eqb}
use Rattle.std.proofs.lemmas.List.{length_push, map_push}
use Rattle.rule_base.specs.declared.entry.Entry.{Entry}
use Rattle.rule_base.specs.declared.instantiation.Choice.{Choice}
use Rattle.rule_base.specs.declared.program.Program.{Program}
use Rattle.rule_base.specs.Chains.{only_if}
use Rattle.rule_base.specs.Sound.{sizes_of}
use Rattle.rule_base.specs.Effect.{Effect, Failure}
use Rattle.rule_base.specs.State.{IsState, State, choices_of, count, same_choice, start}
use Rattle.rule_base.specs.Step.{effect_of, entry_of, step}
use Rattle.rule_base.specs.Run.{run}
use Rattle.rule_base.proofs.AmongLemmas.{Among, IsFound-find}
use Rattle.rule_base.proofs.BaseLemmas.{IsState-start}
use Rattle.rule_base.proofs.ChoiceLemmas.{same_choice-differs}
use Rattle.rule_base.proofs.EachLemmas.{Each-filter}
use Rattle.rule_base.proofs.MachineLemmas.{IsState-run}
use Rattle.rule_base.proofs.StepLemmas.{IsStep-from_step, run-append}
use Rattle.interference.specs.Footprint.{Clash, footprint}
use Rattle.interference.specs.PhantomLaw.{ClashIn, with_elements}
use Rattle.interference.proofs.ListLemmas.{Each-among, Each-from_among}
use Rattle.interference.proofs.ModeLemmas.{goes-symmetric}
use Rattle.interference.proofs.OptionLemmas.{Gave-some, GaveMapped-some, Held-some}
use Rattle.interference.proofs.UndisturbedLemmas.{IsUndisturbed-step}
use Rattle.standing_claims.specs.declared.claim.Claim.{Claim}
use Rattle.standing_claims.specs.Standing.{claim_numbered}
use Rattle.firing_core.specs.declared.claims.FaultSeen.{FaultSeen}
use Rattle.firing_core.specs.declared.claims.Event.{Event}
use Rattle.firing_core.specs.declared.claims.Event.TheVariants as event
use Rattle.firing_core.specs.CoreState.{CoreState, ended}
use Rattle.firing_core.specs.Events.{after_commit, after_fault, after_firing, apply, fold, unless_ended, with_claim, with_state, without_claim, without_claims}
use Rattle.firing_core.specs.Lawful.{AreLawfulClaims, GoTogether, IsHeld, IsLawful, IsEndingFault}
use Rattle.firing_core.specs.FinishedRun.{GoesOn}
use Rattle.firing_core.proofs.PairLemmas.{AreLawful-none, Among-filtered, EachPair-filter, EachPair-two, length-filter}
use Rattle.firing_core.proofs.ClaimLemmas.{IsGoing, IsGoing-ended, IsLawful-claimed}
use Rattle.firing_core.proofs.FiringLemmas.{GoesOn-itself}

-- whether a claim has another number
abbrev is_other : ℕ → Claim → Bool
is_other number claim = not (claim.number == number)

-- the claim of an event stands
pub record Stands (k : CoreState) (number : ℕ) (claim : Claim) : Type 0 where
  pub there : Among claim k.claims
  pub is : claim.number ≡ number

pub Stands-numbered : (k : CoreState) (number : ℕ) (claim : Claim) → claim_numbered k.claims number ≡ Some claim → Stands k number claim
Stands-numbered k number claim at =
    let found = IsFound-find (λ (c : Claim). c.number == number) k.claims claim at in
    record { there = found.there; is = (Decides-eqb claim.number number).0 found.passes }

-- the claims that are left of lawful ones
lawful_without : (k : CoreState) (number : ℕ) → AreLawfulClaims k → AreLawfulClaims (without_claim k number)
lawful_without k number lawful = record {
  held = Each-filter (IsHeld k.program k.state) (is_other number) k.claims lawful.held;
  numbered = Each-filter (λ (claim : Claim). (1 ≤ claim.number) × (claim.number ≤ k.given)) (is_other number) k.claims lawful.numbered;
  together = EachPair-filter (GoTogether k.program) (is_other number) k.claims lawful.together;
  few_claims = omega (arith, lawful.few_claims, length-filter (is_other number) k.claims);
  few_given = lawful.few_given;
}

pub IsLawful-dropped : (k : CoreState) (number : ℕ) → IsLawful k → IsLawful (without_claim k number)
IsLawful-dropped k number lawful = record {
  sound = lawful.sound;
  began = lawful.began;
  ran = lawful.ran;
  within = lawful.within;
  few = lawful.few;
  claims = lawful_without k number lawful.claims;
  fault = lawful.fault;
}

-- a clash is one from either side
Clash-turned : (one other : List (ℕ × _)) → Clash one other → Clash other one
Clash-turned one other clash = record {
  lock = clash.lock;
  mode = clash.beside;
  beside = clash.mode;
  asked = clash.asked_too;
  asked_too = clash.asked;
  apart = goes-symmetric clash.beside clash.mode ∙ clash.apart;
}

-- the candidate of a claim that is held is its choice with its elements
candidate_is : (k : CoreState) (claim : Claim) → IsHeld k.program k.state claim → claim.candidate ≡ with_elements k.state.memory claim.candidate.choice
candidate_is k claim held = λ i. record { choice = claim.candidate.choice; elements = sym held.elements i }

-- two claims that stand, in one order or the other
pub record AreApart (k : CoreState) (one other : Claim) : Type 0 where
  pub differ : same_choice one.candidate.choice other.candidate.choice ≡ false
  pub apart : Clash (footprint k.program one.candidate) (footprint k.program other.candidate) → ⊥

AreApart-two : (k : CoreState) (one other : Claim) → (one.number ≡ other.number → ⊥) → (one ≡ other) ⊎ (GoTogether k.program one other ⊎ GoTogether k.program other one) → AreApart k one other
AreApart-two k one other differ (inl same) = absurd (differ (ap (λ (c : Claim). c.number) same))
AreApart-two k one other differ (inr (inl first)) = record { differ = first.differ; apart = first.clear }
AreApart-two k one other differ (inr (inr later)) = record {
  differ = same_choice-differs other.candidate.choice one.candidate.choice later.differ;
  apart = λ clash. later.clear (Clash-turned (footprint k.program one.candidate) (footprint k.program other.candidate) clash);
}

-- the machine's state is one
pub IsState-lawful : (k : CoreState) → IsLawful k → IsState (sizes_of k.program.classes) k.state
IsState-lawful k lawful =
    IsState-run k.program (start k.base) (choices_of k.state.entries) k.state lawful.sound (IsState-start k.program k.base lawful.began) lawful.ran

-- a claim is held after another's commit
held_after : (k : CoreState) (claim other : Claim) (after : State) → IsLawful k → Among claim k.claims → Among other k.claims → (claim.number ≡ other.number → ⊥) → step k.program k.state claim.candidate.choice ≡ Some after → IsHeld k.program after other
held_after k claim other after lawful of_this of_other differ steps =
    let held = Each-among (IsHeld k.program k.state) k.claims claim lawful.claims.held of_this in
    let other_held = Each-among (IsHeld k.program k.state) k.claims other lawful.claims.held of_other in
    let two = AreApart-two k claim other differ (EachPair-two (GoTogether k.program) k.claims claim other lawful.claims.together of_this of_other) in
    let no_clash : ClashIn k.program k.state.memory claim.candidate.choice other.candidate.choice → ⊥ =
    λ clash. two.apart (subst (λ c. Clash (footprint k.program c) (footprint k.program other.candidate)) (sym (candidate_is k claim held))
    (subst (λ c. Clash (footprint k.program (with_elements k.state.memory claim.candidate.choice)) (footprint k.program c)) (sym (candidate_is k other other_held)) clash)) in
    let undisturbed = IsUndisturbed-step k.program k.state claim.candidate.choice other.candidate.choice after lawful.sound (IsState-lawful k lawful) held.ready other_held.ready two.differ no_clash steps in
    record { ready = undisturbed.ready; elements = undisturbed.elements ∙ other_held.elements }

-- the journal after a step
entries_after : (program : Program) (s after : State) (c : Choice) → step program s c ≡ Some after → (entry : Entry) × (after.entries ≡ s.entries ++ entry ∷ []) × (entry.choice ≡ c)
entries_after program s after c steps =
    let made = IsStep-from_step program s c after steps in
    (entry_of s.next c made.done, ap (λ (s : State). s.entries) made.commits, refl)

IsLawful-committed : (k : CoreState) (claim : Claim) (after : State) → IsLawful k → IsGoing k → Among claim k.claims → step k.program k.state claim.candidate.choice ≡ Some after → IsLawful (record (without_claim k claim.number) { state = after })
IsLawful-committed k claim after lawful going there steps =
    let c = claim.candidate.choice in
    let last = entries_after k.program k.state after c steps in
    let choices_are : choices_of after.entries ≡ choices_of k.state.entries ++ c ∷ [] =
    ap choices_of last.1 ∙ map_push (λ (e : Entry). e.choice) k.state.entries last.0 ∙ ap (λ d. choices_of k.state.entries ++ d ∷ []) last.2 in
    let counted : count after ≡ count k.state + 1 = ap length last.1 ∙ length_push k.state.entries last.0 in
    let then : run k.program k.state (c ∷ []) ≡ Some after = ap (option_and_then (λ (s : State). Some s)) steps in
    let left = lawful_without k claim.number lawful.claims in
    record {
      sound = lawful.sound;
      began = lawful.began;
      ran = ap (run k.program (start k.base)) choices_are ∙ run-append k.program (start k.base) (choices_of k.state.entries) (c ∷ []) ∙ ap (option_and_then (λ (s : State). run k.program s (c ∷ []))) lawful.ran ∙ then;
      within = omega (arith, counted, going.within);
      few = lawful.few;
      claims = record {
        held = Each-from_among (IsHeld k.program after) (filter (is_other claim.number) k.claims)
            (λ other among. let found = Among-filtered (is_other claim.number) other k.claims among in held_after k claim other after lawful there found.1 (other_number other claim.number found.0) steps);
        numbered = left.numbered;
        together = left.together;
        few_claims = left.few_claims;
        few_given = left.few_given;
      };
      fault = subst (λ o. IsEndingFault (record (without_claim k claim.number) { state = after }) o) (sym going.no_fault) tt;
    }
  where
    other_number : (other : Claim) (number : ℕ) → is_other number other ≡ true → number ≡ other.number → ⊥
    other_number other number is same = let here : not (other.number == number) ≡ false = ap not ((Decides-eqb other.number number).1 (sym same)) in let wrong : ⊥ = absurd_by (sym is ∙ here) in wrong
      where
        absurd_by : true ≡ false → ⊥
        absurd_by e = cc

IsLawful-faulted : (k : CoreState) (claim : Claim) (failure : Failure) → IsLawful k → IsGoing k → Among claim k.claims → effect_of k.program k.state.memory claim.candidate.choice ≡ Some (Err failure)
    → IsLawful (record (without_claim k claim.number) { fault = Some (record { choice = claim.candidate.choice; action = failure.action; cause = failure.cause }) })
IsLawful-faulted k claim failure lawful going there fails =
    let held = Each-among (IsHeld k.program k.state) k.claims claim lawful.claims.held there in
    let left = lawful_without k claim.number lawful.claims in
    record {
      sound = lawful.sound;
      began = lawful.began;
      ran = lawful.ran;
      within = lawful.within;
      few = lawful.few;
      claims = record { held = left.held; numbered = left.numbered; together = left.together; few_claims = left.few_claims; few_given = left.few_given };
      fault = record { going = going.going; within = going.within; matching = held.ready.listed; unfired = held.ready.unfired; fails = fails };
    }

-- of the effect of a claim that fails
failing : (o : Option (Result Effect Failure)) (failure : Failure) → option_and_then result_err o ≡ Some failure → o ≡ Some (Err failure)
failing None failure is = absurd (let wrong : ⊥ = cc in wrong)
failing (Some (Ok done)) failure is = absurd (let wrong : ⊥ = cc in wrong)
failing (Some (Err f)) failure is = let same : f ≡ failure = cc in ap (λ g. Some (Err g)) same

-- a claim that stands, in a core that hasn't ended
pub record IsOfClaim (after : CoreState → Claim → Option CoreState) (k : CoreState) (number : ℕ) (last : CoreState) : Type 0 where
  pub claim : Claim
  pub stands : Stands k number claim
  pub going : IsGoing k
  pub gives : after k claim ≡ Some last

pub IsOfClaim-some : (after : CoreState → Claim → Option CoreState) (k : CoreState) (number : ℕ) (last : CoreState) → IsLawful k → unless_ended after k number ≡ Some last → IsOfClaim after k number last
IsOfClaim-some after k number last lawful some =
    let gave = Gave-some (option_and_then (λ (claim : Claim). only_if (is_none (ended k)) claim) (claim_numbered k.claims number)) (after k) last some in
    let found = Gave-some (claim_numbered k.claims number) (λ (claim : Claim). only_if (is_none (ended k)) claim) gave.first gave.is in
    let test = Held-some (is_none (ended k)) found.first gave.first found.next_is in
    record {
      claim = found.first;
      stands = Stands-numbered k number found.first found.is;
      going = IsGoing-ended k lawful test.holds;
      gives = ap (after k) test.same ∙ gave.next_is;
    }

IsLawful-commit : (k last : CoreState) (number : ℕ) → IsLawful k → IsOfClaim after_commit k number last → IsLawful last
IsLawful-commit k last number lawful of_this =
    let outer = GaveMapped-some (after_firing k of_this.claim.candidate.choice) (λ (fired : CoreState). without_claim fired of_this.claim.number) last of_this.gives in
    let inner = GaveMapped-some (step k.program k.state of_this.claim.candidate.choice) (with_state k) outer.first outer.is in
    subst IsLawful (ap (λ (fired : CoreState). without_claim fired of_this.claim.number) inner.last_is ∙ outer.last_is) (IsLawful-committed k of_this.claim inner.first lawful of_this.going of_this.stands.there inner.is)

IsLawful-fault : (k last : CoreState) (number : ℕ) → IsLawful k → IsOfClaim after_fault k number last → IsLawful last
IsLawful-fault k last number lawful of_this =
    let gave = GaveMapped-some (option_and_then result_err (effect_of k.program k.state.memory of_this.claim.candidate.choice))
    (λ (failure : Failure).
    let seen : FaultSeen = record { choice = of_this.claim.candidate.choice; action = failure.action; cause = failure.cause } in
    let after : CoreState = record (without_claim k of_this.claim.number) { fault = Some seen } in
    after) last of_this.gives in
    subst IsLawful gave.last_is
    (IsLawful-faulted k of_this.claim gave.first lawful of_this.going of_this.stands.there (failing (effect_of k.program k.state.memory of_this.claim.candidate.choice) gave.first gave.is))

-- one event
pub IsLawful-apply : (k after : CoreState) (event : Event) → IsLawful k → apply k event ≡ Some after → IsLawful after
IsLawful-apply k after (event.Claimed candidate) lawful is = IsLawful-claimed k candidate after lawful (IsState-lawful k lawful).elements.rising is
IsLawful-apply k after (event.Committed number) lawful is = IsLawful-commit k after number lawful (IsOfClaim-some after_commit k number after lawful is)
IsLawful-apply k after (event.Faulted number) lawful is = IsLawful-fault k after number lawful (IsOfClaim-some after_fault k number after lawful is)
IsLawful-apply k after (event.Dropped number) lawful is =
    let held = Held-some (is_some (claim_numbered k.claims number)) (without_claim k number) after is in
    subst IsLawful held.same (IsLawful-dropped k number lawful)

-- and a list of them
pub IsLawful-fold : (k after : CoreState) (events : List Event) → IsLawful k → fold k events ≡ Some after → IsLawful after
IsLawful-fold k after [] lawful is = let same : k ≡ after = cc in subst IsLawful same lawful
IsLawful-fold k after (event ∷ events) lawful is =
    let gave = Gave-some (apply k event) (λ (next : CoreState). fold next events) after is in
    IsLawful-fold gave.first after events (IsLawful-apply k gave.first event lawful gave.is) gave.next_is

-- the journal goes on
GoesOn-then : (k middle after : CoreState) → GoesOn k middle → GoesOn middle after → GoesOn k after
GoesOn-then k middle after first second = record {
  same = record {
    of_program = second.same.of_program ∙ first.same.of_program;
    from_base = second.same.from_base ∙ first.same.from_base;
    with_budget = second.same.with_budget ∙ first.same.with_budget;
  };
  journal = (first.journal.0 ++ second.journal.0, second.journal.1 ∙ ap (λ es. es ++ second.journal.0) first.journal.1 ∙ append_assoc k.state.entries first.journal.0 second.journal.0);
}

GoesOn-same : (k after : CoreState) → after.program ≡ k.program → after.base ≡ k.base → after.budget ≡ k.budget → after.state ≡ k.state → GoesOn k after
GoesOn-same k after program base budget state = record {
  same = record { of_program = program; from_base = base; with_budget = budget };
  journal = ([], ap (λ (s : State). s.entries) state ∙ sym (append-nil k.state.entries));
}

GoesOn-commit : (k last : CoreState) (number : ℕ) → IsOfClaim after_commit k number last → GoesOn k last
GoesOn-commit k last number of_this =
    let outer = GaveMapped-some (after_firing k of_this.claim.candidate.choice) (λ (fired : CoreState). without_claim fired of_this.claim.number) last of_this.gives in
    let inner = GaveMapped-some (step k.program k.state of_this.claim.candidate.choice) (with_state k) outer.first outer.is in
    let entries = entries_after k.program k.state inner.first of_this.claim.candidate.choice inner.is in
    subst (GoesOn k) (ap (λ (fired : CoreState). without_claim fired of_this.claim.number) inner.last_is ∙ outer.last_is)
    (record { same = record { of_program = refl; from_base = refl; with_budget = refl }; journal = (entries.0 ∷ [], entries.1) })

GoesOn-fault : (k last : CoreState) (number : ℕ) → IsOfClaim after_fault k number last → GoesOn k last
GoesOn-fault k last number of_this =
    let gave = GaveMapped-some (option_and_then result_err (effect_of k.program k.state.memory of_this.claim.candidate.choice))
    (λ (failure : Failure).
    let seen : FaultSeen = record { choice = of_this.claim.candidate.choice; action = failure.action; cause = failure.cause } in
    let after : CoreState = record (without_claim k of_this.claim.number) { fault = Some seen } in
    after) last of_this.gives in
    subst (GoesOn k) gave.last_is (GoesOn-same k _ refl refl refl refl)

GoesOn-apply : (k after : CoreState) (event : Event) → IsLawful k → apply k event ≡ Some after → GoesOn k after
GoesOn-apply k after (event.Claimed candidate) lawful is =
    let held = Held-some _ (with_claim k candidate) after is in
    subst (GoesOn k) held.same (GoesOn-same k (with_claim k candidate) refl refl refl refl)
GoesOn-apply k after (event.Committed number) lawful is = GoesOn-commit k after number (IsOfClaim-some after_commit k number after lawful is)
GoesOn-apply k after (event.Faulted number) lawful is = GoesOn-fault k after number (IsOfClaim-some after_fault k number after lawful is)
GoesOn-apply k after (event.Dropped number) lawful is =
    let held = Held-some (is_some (claim_numbered k.claims number)) (without_claim k number) after is in
    subst (GoesOn k) held.same (GoesOn-same k (without_claim k number) refl refl refl refl)

pub GoesOn-fold : (k after : CoreState) (events : List Event) → IsLawful k → fold k events ≡ Some after → GoesOn k after
GoesOn-fold k after [] lawful is = let same : k ≡ after = cc in subst (GoesOn k) same (GoesOn-itself k)
GoesOn-fold k after (event ∷ events) lawful is =
    let gave = Gave-some (apply k event) (λ (next : CoreState). fold next events) after is in
    GoesOn-then k gave.first after (GoesOn-apply k gave.first event lawful gave.is) (GoesOn-fold gave.first after events (IsLawful-apply k gave.first event lawful gave.is) gave.next_is)

-- a core without claims that fires at once
IsRan-fired : (k : CoreState) (c : Choice) (after : State) → IsLawful k → IsGoing k → step k.program k.state c ≡ Some after → (run k.program (start k.base) (choices_of after.entries) ≡ Some after) × (count after ≤ k.budget)
IsRan-fired k c after lawful going steps =
    let last = entries_after k.program k.state after c steps in
    let choices_are : choices_of after.entries ≡ choices_of k.state.entries ++ c ∷ [] =
    ap choices_of last.1 ∙ map_push (λ (e : Entry). e.choice) k.state.entries last.0 ∙ ap (λ d. choices_of k.state.entries ++ d ∷ []) last.2 in
    let counted : count after ≡ count k.state + 1 = ap length last.1 ∙ length_push k.state.entries last.0 in
    let then : run k.program k.state (c ∷ []) ≡ Some after = ap (option_and_then (λ (s : State). Some s)) steps in
    (ap (run k.program (start k.base)) choices_are ∙ run-append k.program (start k.base) (choices_of k.state.entries) (c ∷ []) ∙ ap (option_and_then (λ (s : State). run k.program s (c ∷ []))) lawful.ran ∙ then, omega (arith, counted, going.within))

pub IsLawful-fired : (k after : CoreState) (c : Choice) → IsLawful k → k.claims ≡ [] → ended k ≡ None → after_firing k c ≡ Some after → IsLawful after
IsLawful-fired k after c lawful none not_ended is =
    let gave = GaveMapped-some (step k.program k.state c) (with_state k) after is in
    let going = IsGoing-ended k lawful (ap is_none not_ended) in
    let ran = IsRan-fired k c gave.first lawful going gave.is in
    subst IsLawful gave.last_is (record {
      sound = lawful.sound;
      began = lawful.began;
      ran = ran.0;
      within = ran.1;
      few = lawful.few;
      claims = AreLawful-none (with_state k gave.first) none lawful.claims.few_given;
      fault = subst (IsEndingFault (with_state k gave.first)) (sym going.no_fault) tt;
    })

-- and one that drops all claims
pub IsLawful-without_claims : (k : CoreState) → IsLawful k → IsLawful (without_claims k)
IsLawful-without_claims k lawful = record {
  sound = lawful.sound;
  began = lawful.began;
  ran = lawful.ran;
  within = lawful.within;
  few = lawful.few;
  claims = AreLawful-none (without_claims k) refl (omega arith);
  fault = lawful.fault;
}
