-- What the calls that make a claim or end it answer, and what becomes of the core.
use lib.Pointwise.{pointwise}
use Rattle.std.specs.Prelude.{◌≡◌, ℕ, List, [], ◌∷◌, Bool, false, ◌&&◌, ◌⊎◌, not, Option, None, Some, option_and_then, option_map, ◌==◌}
use Rattle.std.specs.Option.{option_map_or}
use Rattle.rule_base.specs.declared.element.Element.{Element}
use Rattle.rule_base.specs.declared.instantiation.Candidate.{Candidate}
use Rattle.rule_base.specs.Chains.{only_if, first_answer}
use Rattle.rule_base.specs.State.{same_choice}
use Rattle.standing_claims.specs.declared.claim.Claim.{Claim}
use Rattle.standing_claims.specs.Standing.{claim_numbered}
use Rattle.firing_core.specs.declared.claims.ClaimRefusal.{ClaimRefusal}
use Rattle.firing_core.specs.declared.claims.ClaimRefusal.TheVariants as refusal
use Rattle.firing_core.specs.declared.claims.CommitRefusal.{CommitRefusal}
use Rattle.firing_core.specs.declared.claims.CommitRefusal.TheVariants.{Ended, Foreign}
use Rattle.firing_core.specs.declared.claims.Event.{Event}
use Rattle.firing_core.specs.declared.claims.Event.TheVariants as event
use Rattle.firing_core.specs.CoreState.{CoreState, ended}
use Rattle.firing_core.specs.Refusals.{claim_refusal}
use Rattle.firing_core.specs.Events.{apply, without_claim}
use Rattle.firing_core.specs.Grants.{Granted}
use Rattle.rule_base.specs.Memory.{same_element}

-- a call that claims tells why it made no claim, or that memory is wanting
abbrev pub TellsWhy : CoreState → Candidate → ClaimRefusal → Type 0
TellsWhy k candidate told = (told ≡ refusal.OutOfMemory) ⊎ (claim_refusal k candidate ≡ Some told)

-- the claim of a grant: the one that stands under its number, if that has its choice
abbrev pub claim_of : CoreState → Granted → Option Claim
claim_of k grant =
    option_and_then (λ (claim : Claim). only_if (same_choice claim.candidate.choice grant.candidate.choice) claim) (claim_numbered k.claims grant.number)

-- whether a firing of the rule with this number, on these elements, is what the claim is for
abbrev pub is_for : ℕ → List Element → Claim → Bool
is_for rule elements claim = (rule == claim.candidate.choice.rule) && pointwise same_element elements claim.candidate.elements

-- whether the claim of a grant stands and is for such a firing
abbrev pub is_granted : CoreState → Granted → ℕ → List Element → Bool
is_granted k grant rule elements = option_map_or (is_for rule elements) (claim_of k grant) false

-- why the grant and the firing can't end a claim, if they can't: they are of none that stands, or else the core has ended
abbrev pub commit_refusal : CoreState → Granted → ℕ → List Element → Option CommitRefusal
commit_refusal k grant rule elements =
    first_answer (λ o. o) (only_if (not (is_granted k grant rule elements)) Foreign ∷ option_map Ended (ended k) ∷ [])

-- the core after a call that is to end the claim under a number by an event: the event has happened; or nothing has, where the claim was
-- another's; or the claim is dropped, where the core had ended
abbrev pub after_ending : CoreState → ℕ → Event → Option CommitRefusal → Option CoreState
after_ending k number made None = apply k made
after_ending k number made (Some Foreign) = Some k
after_ending k number made (Some (Ended how)) = apply k (event.Dropped number)

-- what is left of the core where the call is turned away for this reason, or for none
abbrev pub turned_away : CoreState → ℕ → Option CommitRefusal → CoreState
turned_away k number None = k
turned_away k number (Some Foreign) = k
turned_away k number (Some (Ended how)) = without_claim k number
