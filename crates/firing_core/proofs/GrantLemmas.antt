-- The claim of a grant: what it is, and what comes of the events that end it.
use lib.Pointwise.{pointwise}
use Rattle.std.proofs.Common.{◌≡◌, ℕ, ◌<◌, List, Bool, true, false, ◌&&◌, Option, Some, None, Err, Result, is_none, is_some, length, option_and_then, option_map, slice_get, ◌==◌, refl, sym, ◌∙◌, ap, subst}
use Rattle.std.specs.Bool.{Decides}
use Rattle.std.specs.Option.{option_map_or}
use Rattle.std.proofs.lemmas.Bool.Decides.{Decides-eqb}
use Rattle.std.proofs.lemmas.Option.{slice_get-get_or}
use Rattle.std.proofs.lemmas.Slice.Eq.{slice_eq-Decides}
use Rattle.rule_base.specs.declared.element.Element.{Element}
use Rattle.rule_base.specs.declared.instantiation.Choice.{Choice}
use Rattle.rule_base.specs.declared.program.Rule.{Rule}
use Rattle.rule_base.specs.declared.program.Program.{Program}
use Rattle.rule_base.specs.Chains.{only_if}
use Rattle.rule_base.specs.Effect.{Effect, Failure, effect}
use Rattle.rule_base.specs.Memory.{elements_at, same_element}
use Rattle.rule_base.specs.State.{State, has_fired, same_choice}
use Rattle.rule_base.specs.Step.{effect_of, matches, may_fire, step}
use Rattle.rule_base.proofs.AmongLemmas.{IsFound-find}
use Rattle.rule_base.proofs.ChoiceLemmas.{same_choice-equal}
use Rattle.rhs_actions.specs.Outcomes.{no_rule, rule_at}
use Rattle.interference.specs.PhantomLaw.{IsReady}
use Rattle.interference.proofs.ListLemmas.{Each-among}
use Rattle.interference.proofs.MatchedLemmas.{matches-listed}
use Rattle.interference.proofs.OptionLemmas.{Gave-some, Held-some, both_hold}
use Rattle.standing_claims.specs.declared.claim.Claim.{Claim}
use Rattle.standing_claims.specs.Standing.{claim_numbered}
use Rattle.firing_core.specs.declared.claims.FaultSeen.{FaultSeen}
use Rattle.firing_core.specs.declared.claims.CommitRefusal.{CommitRefusal}
use Rattle.firing_core.specs.declared.claims.CommitRefusal.TheVariants.{Ended, Foreign}
use Rattle.firing_core.specs.declared.claims.Event.{Event}
use Rattle.firing_core.specs.declared.claims.Event.TheVariants as event
use Rattle.firing_core.specs.declared.claims.How.{How}
use Rattle.firing_core.specs.Answers.{after_ending, claim_of, commit_refusal, is_for, is_granted, turned_away}
use Rattle.firing_core.specs.CoreState.{CoreState, ended}
use Rattle.firing_core.specs.Events.{after_commit, after_fault, after_firing, apply, unless_ended, with_state, without_claim}
use Rattle.firing_core.specs.Grants.{Granted}
use Rattle.firing_core.specs.Lawful.{IsHeld, IsLawful}
use Rattle.rule_base.specs.Value.{same_value}
use Rattle.firing_core.proofs.ClaimLemmas.{IsGoing-ended, same_element-equal, same_value-Decides}
use Rattle.firing_core.proofs.EventLemmas.{IsState-lawful}

-- a claim that stands, of the grant's number and choice
pub record IsClaimOf (k : CoreState) (grant : Granted) (claim : Claim) : Type 0 where
  pub numbered : claim_numbered k.claims grant.number ≡ Some claim
  pub choice : claim.candidate.choice ≡ grant.candidate.choice

IsClaimOf-some : (k : CoreState) (grant : Granted) (claim : Claim) → claim_of k grant ≡ Some claim → IsClaimOf k grant claim
IsClaimOf-some k grant claim is =
    let gave = Gave-some (claim_numbered k.claims grant.number) (λ (c : Claim). only_if (same_choice c.candidate.choice grant.candidate.choice) c) claim is in
    let held = Held-some (same_choice gave.first.candidate.choice grant.candidate.choice) gave.first claim gave.next_is in
    record {
      numbered = gave.is ∙ ap (λ c. Some c) held.same;
      choice = ap (λ (c : Claim). c.candidate.choice) (sym held.same) ∙ same_choice-equal gave.first.candidate.choice grant.candidate.choice held.holds;
    }

-- the claim of a grant, where it stands
pub record StandsFor (k : CoreState) (grant : Granted) : Type 0 where
  pub claim : Claim
  pub is : IsClaimOf k grant claim

standing_by : (k : CoreState) (grant : Granted) (o : Option Claim) → claim_of k grant ≡ o → is_some o ≡ true → StandsFor k grant
standing_by k grant None at stands = absurd (let wrong : ⊥ = cc in wrong)
standing_by k grant (Some claim) at stands = record { claim = claim; is = IsClaimOf-some k grant claim at }

pub StandsFor-some : (k : CoreState) (grant : Granted) → is_some (claim_of k grant) ≡ true → StandsFor k grant
StandsFor-some k grant stands = standing_by k grant (claim_of k grant) refl stands

-- it is held, and the machine may fire its choice
pub held : (k : CoreState) (grant : Granted) (claim : Claim) → IsLawful k → IsClaimOf k grant claim → IsHeld k.program k.state claim
held k grant claim lawful is =
    Each-among (IsHeld k.program k.state) k.claims claim lawful.claims.held (IsFound-find (λ (c : Claim). c.number == grant.number) k.claims claim is.numbered).there

may_fire_by : (program : Program) (s : State) (c : Choice) (halted matching fired : Bool) → s.halted ≡ halted → matches program s.memory c ≡ matching → has_fired s c ≡ fired → halted ≡ false → matching ≡ true → fired ≡ false → may_fire program s c ≡ true
may_fire_by program s c false true false halts matching fired _ _ _ = rw halts (rw matching (rw fired refl))
may_fire_by program s c true matching fired halts m f not_halted _ _ = absurd (let wrong : ⊥ = cc in wrong)
may_fire_by program s c false false fired halts m f _ is _ = absurd (let wrong : ⊥ = cc in wrong)
may_fire_by program s c false true true halts m f _ _ is = absurd (let wrong : ⊥ = cc in wrong)

pub may_fire-held : (k : CoreState) (grant : Granted) (claim : Claim) → IsLawful k → ended k ≡ None → IsClaimOf k grant claim → may_fire k.program k.state grant.candidate.choice ≡ true
may_fire-held k grant claim lawful going is =
    let ready : IsReady k.program k.state grant.candidate.choice = subst (IsReady k.program k.state) is.choice (held k grant claim lawful is).ready in
    let matching = matches-listed k.program k.state.memory grant.candidate.choice (IsState-lawful k lawful).elements.rising ready.listed in
    let on = IsGoing-ended k lawful (ap is_none going) in
    may_fire_by k.program k.state grant.candidate.choice k.state.halted (matches k.program k.state.memory grant.candidate.choice) (has_fired k.state grant.candidate.choice) refl refl refl on.going matching ready.unfired

-- what a firing for the claim comes to is what its choice comes to
pub same_element-itself : (e : Element) → same_element e e ≡ true
same_element-itself e = both_true ((e.tag == e.tag) && (e.class == e.class)) (pointwise same_value e.values e.values) (both_true (e.tag == e.tag) (e.class == e.class) ((Decides-eqb e.tag e.tag).1 refl) ((Decides-eqb e.class e.class).1 refl)) ((slice_eq-Decides same_value-Decides e.values e.values (pointwise same_value e.values e.values) refl).1 refl)
  where
    both_true : (a b : Bool) → a ≡ true → b ≡ true → (a && b) ≡ true
    both_true a b first second = rw first second

same_element-Decides : (e other : Element) → Decides (same_element e other) (e ≡ other)
same_element-Decides e other = (same_element-equal e other, λ same. subst (λ x. same_element e x ≡ true) same (same_element-itself e))

record IsFor (rule : ℕ) (elements : List Element) (claim : Claim) : Type 0 where
  rule_is : rule ≡ claim.candidate.choice.rule
  elements_are : elements ≡ claim.candidate.elements

IsFor-true : (rule : ℕ) (elements : List Element) (claim : Claim) → is_for rule elements claim ≡ true → IsFor rule elements claim
IsFor-true rule elements claim is =
    let both = both_hold (rule == claim.candidate.choice.rule) (pointwise same_element elements claim.candidate.elements) is in
    record {
      rule_is = (Decides-eqb rule claim.candidate.choice.rule).0 both.0;
      elements_are = (slice_eq-Decides same_element-Decides elements claim.candidate.elements (pointwise same_element elements claim.candidate.elements) refl).0 both.1;
    }

-- the claim of a grant that stands and is for a firing
record IsGranted (k : CoreState) (grant : Granted) (rule : ℕ) (elements : List Element) : Type 0 where
  claim : Claim
  is : IsClaimOf k grant claim
  firing : IsFor rule elements claim

granted_by : (k : CoreState) (grant : Granted) (rule : ℕ) (elements : List Element) (o : Option Claim) → claim_of k grant ≡ o → option_map_or (is_for rule elements) o false ≡ true → IsGranted k grant rule elements
granted_by k grant rule elements None at is = absurd (let wrong : ⊥ = cc in wrong)
granted_by k grant rule elements (Some claim) at is = record { claim = claim; is = IsClaimOf-some k grant claim at; firing = IsFor-true rule elements claim is }

pub stands-granted : (k : CoreState) (grant : Granted) (rule : ℕ) (elements : List Element) → is_granted k grant rule elements ≡ true → is_some (claim_of k grant) ≡ true
stands-granted k grant rule elements is = stands_by (claim_of k grant) is
  where
    stands_by : (o : Option Claim) → option_map_or (is_for rule elements) o false ≡ true → is_some o ≡ true
    stands_by None is = absurd (let wrong : ⊥ = cc in wrong)
    stands_by (Some claim) is = refl

pub effect_of-granted : (k : CoreState) (grant : Granted) (rule : ℕ) (elements : List Element) (r : Result Effect Failure) → IsLawful k → is_granted k grant rule elements ≡ true → slice_get k.program.rules rule ≡ Some (rule_at k.program rule) → effect (rule_at k.program rule) elements ≡ r → effect_of k.program k.state.memory grant.candidate.choice ≡ Some r
effect_of-granted k grant rule elements r lawful is there comes =
    let granted = granted_by k grant rule elements (claim_of k grant) refl is in
    let elements_are : elements_at k.state.memory grant.candidate.choice.tags ≡ elements =
    ap (λ (c : Choice). elements_at k.state.memory c.tags) (sym granted.is.choice) ∙ (held k grant granted.claim lawful granted.is).elements ∙ sym granted.firing.elements_are in
    let rule_is : rule ≡ grant.candidate.choice.rule = granted.firing.rule_is ∙ ap (λ (c : Choice). c.rule) granted.is.choice in
    ap (λ n. option_map (λ (r : Rule). effect r (elements_at k.state.memory grant.candidate.choice.tags)) (slice_get k.program.rules n)) (sym rule_is)
    ∙ ap (option_map (λ (r : Rule). effect r (elements_at k.state.memory grant.candidate.choice.tags))) there
    ∙ ap (λ es. Some (effect (rule_at k.program rule) es)) elements_are ∙ ap (λ x. Some x) comes

-- an event of a claim that stands, in a core that hasn't ended
event_of : (after : CoreState → Claim → Option CoreState) (k : CoreState) (number : ℕ) (claim : Claim) → claim_numbered k.claims number ≡ Some claim → ended k ≡ None → unless_ended after k number ≡ after k claim
event_of after k number claim numbered going =
    ap (λ o. option_and_then (after k) (option_and_then (λ (c : Claim). only_if (is_none (ended k)) c) o)) numbered
    ∙ ap (λ o. option_and_then (after k) (only_if (is_none o) claim)) going

number_is : (k : CoreState) (grant : Granted) (claim : Claim) → IsClaimOf k grant claim → claim.number ≡ grant.number
number_is k grant claim is = (Decides-eqb claim.number grant.number).0 (IsFound-find (λ (c : Claim). c.number == grant.number) k.claims claim is.numbered).passes

pub committed : (k : CoreState) (grant : Granted) (claim : Claim) (s : State) → IsClaimOf k grant claim → ended k ≡ None → step k.program k.state grant.candidate.choice ≡ Some s → apply k (event.Committed grant.number) ≡ Some (without_claim (with_state k s) grant.number)
committed k grant claim s is going steps =
    let done : after_firing k claim.candidate.choice ≡ Some (with_state k s) = ap (after_firing k) is.choice ∙ ap (option_map (with_state k)) steps in
    event_of after_commit k grant.number claim is.numbered going
    ∙ ap (option_map (λ (fired : CoreState). without_claim fired claim.number)) done
    ∙ ap (λ n. Some (without_claim (with_state k s) n)) (number_is k grant claim is)

-- the core that has kept the failure of a claim's firing
abbrev pub with_fault : CoreState → Granted → Failure → CoreState
with_fault k grant failure =
    let seen : FaultSeen = record { choice = grant.candidate.choice; action = failure.action; cause = failure.cause } in
    let after : CoreState = record (without_claim k grant.number) { fault = Some seen } in
    after

pub faulted : (k : CoreState) (grant : Granted) (claim : Claim) (failure : Failure) → IsClaimOf k grant claim → ended k ≡ None → effect_of k.program k.state.memory grant.candidate.choice ≡ Some (Err failure) → apply k (event.Faulted grant.number) ≡ Some (with_fault k grant failure)
faulted k grant claim failure is going fails = event_of after_fault k grant.number claim is.numbered going ∙ gives
  where
    seen_with : Choice → FaultSeen
    seen_with c = record { choice = c; action = failure.action; cause = failure.cause }

    same : (c : Choice) (n : ℕ) → c ≡ grant.candidate.choice → n ≡ grant.number → record (without_claim k n) { fault = Some (seen_with c) } ≡ with_fault k grant failure
    same c n choice number = λ i. record (without_claim k (number i)) { fault = Some (seen_with (choice i)) }

    gives : after_fault k claim ≡ Some (with_fault k grant failure)
    gives =
        let fails_too : effect_of k.program k.state.memory claim.candidate.choice ≡ Some (Err failure) = ap (effect_of k.program k.state.memory) is.choice ∙ fails in
        rw fails_too (ap (λ x. Some x) (same claim.candidate.choice claim.number is.choice (number_is k grant claim is)))

pub dropped : (k : CoreState) (grant : Granted) (claim : Claim) → IsClaimOf k grant claim → apply k (event.Dropped grant.number) ≡ Some (without_claim k grant.number)
dropped k grant claim is = ap (λ o. only_if (is_some o) (without_claim k grant.number)) is.numbered

-- a call that is turned away
pub ending-turned : (k : CoreState) (grant : Granted) (rule : ℕ) (elements : List Element) (made : Event) (told : CommitRefusal) → commit_refusal k grant rule elements ≡ Some told → after_ending k grant.number made (Some told) ≡ Some (turned_away k grant.number (Some told))
ending-turned k grant rule elements made Foreign is = refl
ending-turned k grant rule elements made (Ended how) is =
    let stands = StandsFor-some k grant (stands-granted k grant rule elements (granted_if (is_granted k grant rule elements) refl is)) in
    dropped k grant stands.claim stands.is
  where
    granted_if : (b : Bool) → is_granted k grant rule elements ≡ b → commit_refusal k grant rule elements ≡ Some (Ended how) → b ≡ true
    granted_if true at is = refl
    granted_if false at is = absurd (let wrong : ⊥ = cc in wrong)

-- and one that isn't
pub record IsLetIn (k : CoreState) (grant : Granted) (rule : ℕ) (elements : List Element) : Type 0 where
  pub granted : is_granted k grant rule elements ≡ true
  pub going : ended k ≡ None

let_in : (k : CoreState) (grant : Granted) (rule : ℕ) (elements : List Element) (b : Bool) (how : Option How) → is_granted k grant rule elements ≡ b → ended k ≡ how → commit_refusal k grant rule elements ≡ None → IsLetIn k grant rule elements
let_in k grant rule elements true None granted going none = record { granted = granted; going = going }
let_in k grant rule elements true (Some how) granted going none = absurd (let wrong : ⊥ = cc in wrong)
let_in k grant rule elements false how granted going none = absurd (let wrong : ⊥ = cc in wrong)

pub IsLetIn-none : (k : CoreState) (grant : Granted) (rule : ℕ) (elements : List Element) → commit_refusal k grant rule elements ≡ None → IsLetIn k grant rule elements
IsLetIn-none k grant rule elements none = let_in k grant rule elements (is_granted k grant rule elements) (ended k) refl refl none

-- what a firing of the claim's rule comes to, where it is let in
pub effect_of-let_in : (k : CoreState) (grant : Granted) (program : Program) (rule : ℕ) (elements : List Element) (r : Result Effect Failure) → IsLawful k → program ≡ k.program → commit_refusal k grant rule elements ≡ None → rule < length program.rules → effect (rule_at program rule) elements ≡ r → effect_of k.program k.state.memory grant.candidate.choice ≡ Some r
effect_of-let_in k grant program rule elements r lawful same none there comes =
    let within : rule < length k.program.rules = subst (λ (p : Program). rule < length p.rules) same there in
    effect_of-granted k grant rule elements r lawful (IsLetIn-none k grant rule elements none).granted (slice_get-get_or k.program.rules rule no_rule within)
    (subst (λ (p : Program). effect (rule_at p rule) elements ≡ r) same comes)
