-- Why a candidate can't be claimed.
use Rattle.std.specs.Prelude.{ℕ, List, [], ◌∷◌, not, Option, find, length, map, option_and_then, option_map, slice_get}
use Rattle.std.specs.List.{list_any}
use Rattle.std.specs.Result.{result_err}
use Rattle.rule_base.specs.declared.lock.Mode.{Mode}
use Rattle.rule_base.specs.declared.lock.Busy.{Busy}
use Rattle.rule_base.specs.declared.element.Element.{Element}
use Rattle.rule_base.specs.declared.instantiation.Choice.{Choice}
use Rattle.rule_base.specs.declared.instantiation.Candidate.{Candidate}
use Rattle.rule_base.specs.declared.program.Rule.{Rule}
use Rattle.rule_base.specs.declared.program.Program.{Program}
use Rattle.rule_base.specs.Chains.{only_if, first_answer}
use Rattle.rule_base.specs.Memory.{same_element, Memory}
use Rattle.rule_base.specs.Match.{match_of}
use Rattle.rule_base.specs.State.{has_fired}
use Rattle.interference.specs.Footprint.{footprint}
use Rattle.interference.specs.Words.{first_busy, word_of}
use Rattle.standing_claims.specs.declared.claim.Claim.{Claim}
use Rattle.standing_claims.specs.Standing.{claim_of_choice, is_full}
use Rattle.firing_core.specs.declared.claims.ClaimRefusal.{ClaimRefusal}
use Rattle.firing_core.specs.declared.claims.ClaimRefusal.TheVariants as refusal
use Rattle.firing_core.specs.CoreState.{CoreState, ended}

-- the footprints of the claims that stand
abbrev pub claimed_footprints : CoreState → List (List (ℕ × Mode))
claimed_footprints k = map (λ (claim : Claim). footprint k.program claim.candidate) k.claims

-- the first lock that the candidate asks for and on which the standing claims leave no room for its mode, with the word that they make there
abbrev pub busy_lock : CoreState → Candidate → Option Busy
busy_lock k candidate = first_busy (word_of (claimed_footprints k)) (footprint k.program candidate)

-- the tag of the first of these elements that isn't in the memory, or is another there
abbrev pub gone_tag : Memory → List Element → Option ℕ
gone_tag memory elements = option_map (λ (e : Element). e.tag) (find (λ (e : Element). not (list_any (same_element e) memory)) elements)

-- the number of the first condition element of the choice's rule that fails, from 1
abbrev pub failing_condition : Program → Memory → Choice → Option ℕ
failing_condition program memory c = option_and_then (λ (rule : Rule). result_err (match_of rule c.tags memory)) (slice_get program.rules c.rule)

-- why no further claim of the choice may stand: one stands already, or none has room
abbrev pub crowdings : CoreState → Choice → List (Option ClaimRefusal)
crowdings k c =
    option_map (λ (claim : Claim). refusal.Claimed claim.number) (claim_of_choice k.claims c)
    ∷ only_if (is_full k.given (length k.claims)) (refusal.Full k.given (length k.claims))
    ∷ []

abbrev pub crowding : CoreState → Choice → Option ClaimRefusal
crowding k c = first_answer (λ o. o) (crowdings k c)

-- why the candidate can't be claimed, if it can't: the first of these, in this order
abbrev pub refusals : CoreState → Candidate → List (Option ClaimRefusal)
refusals k candidate =
    option_map refusal.Busy (busy_lock k candidate)
    ∷ option_map refusal.Ended (ended k)
    ∷ option_map refusal.Gone (gone_tag k.state.memory candidate.elements)
    ∷ option_map refusal.Unmatched (failing_condition k.program k.state.memory candidate.choice)
    ∷ only_if (has_fired k.state candidate.choice) refusal.Fired
    ∷ crowdings k candidate.choice

abbrev pub claim_refusal : CoreState → Candidate → Option ClaimRefusal
claim_refusal k candidate = first_answer (λ o. o) (refusals k candidate)
