-- What happens to a core: the events, when each is possible, and what it makes of the core.
use Rattle.std.specs.Prelude.{ℕ, ◌+◌, List, [], ◌∷◌, ◌++◌, ◌&&◌, not, Option, Some, filter, is_none, is_some, option_and_then, option_map, ◌==◌}
use Rattle.std.specs.Result.{result_err}
use Rattle.rule_base.specs.declared.instantiation.Choice.{Choice}
use Rattle.rule_base.specs.declared.instantiation.Candidate.{Candidate}
use Rattle.rule_base.specs.Chains.{only_if}
use Rattle.rule_base.specs.Effect.{Failure}
use Rattle.rule_base.specs.State.{State}
use Rattle.rule_base.specs.Step.{effect_of, step}
use Rattle.standing_claims.specs.declared.claim.Claim.{Claim}
use Rattle.standing_claims.specs.Standing.{claim_numbered}
use Rattle.firing_core.specs.declared.claims.FaultSeen.{FaultSeen}
use Rattle.firing_core.specs.declared.claims.Event.{Event}
use Rattle.firing_core.specs.declared.claims.Event.TheVariants as event
use Rattle.firing_core.specs.CoreState.{CoreState, ended}
use Rattle.firing_core.specs.Refusals.{claim_refusal}
use Rattle.rule_base.specs.Fits.{is_fitting}

-- the core with one more claim, which has the next number
abbrev pub with_claim : CoreState → Candidate → CoreState
with_claim k candidate = record k { claims = k.claims ++ record { number = k.given + 1; candidate = candidate } ∷ []; given = k.given + 1 }

-- and without a claim
abbrev pub without_claim : CoreState → ℕ → CoreState
without_claim k number = record k { claims = filter (λ (claim : Claim). not (claim.number == number)) k.claims }

-- without any, and with numbers given anew
abbrev pub without_claims : CoreState → CoreState
without_claims k = record k { claims = []; given = 0 }

-- with another state of the machine
abbrev pub with_state : CoreState → State → CoreState
with_state k s = record k { state = s }

-- the core after a choice has fired, where the machine may fire it
abbrev pub after_firing : CoreState → Choice → Option CoreState
after_firing k c = option_map (with_state k) (step k.program k.state c)

-- after a claim's choice has fired
abbrev pub after_commit : CoreState → Claim → Option CoreState
after_commit k claim = option_map (λ (fired : CoreState). without_claim fired claim.number) (after_firing k claim.candidate.choice)

-- after a claim's effect has failed
abbrev pub after_fault : CoreState → Claim → Option CoreState
after_fault k claim =
    option_map (λ (failure : Failure).
    let seen : FaultSeen = record { choice = claim.candidate.choice; action = failure.action; cause = failure.cause } in
    let after : CoreState = record (without_claim k claim.number) { fault = Some seen } in
    after) (option_and_then result_err (effect_of k.program k.state.memory claim.candidate.choice))

-- what comes of the claim that stands under a number, where the core hasn't ended
abbrev pub unless_ended : (CoreState → Claim → Option CoreState) → CoreState → ℕ → Option CoreState
unless_ended after k number = option_and_then (after k) (option_and_then (λ (claim : Claim). only_if (is_none (ended k)) claim) (claim_numbered k.claims number))

-- the core after an event, where it is possible: a candidate that fits is claimed where nothing refuses it; a claim that stands is
-- committed, or fails, where the core hasn't ended, as its effect says; and it may be dropped at any time
abbrev pub apply : CoreState → Event → Option CoreState
apply k (event.Claimed candidate) = only_if (is_fitting k.program candidate && is_none (claim_refusal k candidate)) (with_claim k candidate)
apply k (event.Committed number) = unless_ended after_commit k number
apply k (event.Faulted number) = unless_ended after_fault k number
apply k (event.Dropped number) = only_if (is_some (claim_numbered k.claims number)) (without_claim k number)

-- the core after events in order, where each is possible
abbrev pub fold : CoreState → List Event → Option CoreState
fold k [] = Some k
fold k (event ∷ events) = option_and_then (λ after. fold after events) (apply k event)
