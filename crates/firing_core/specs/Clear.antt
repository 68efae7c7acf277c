-- Candidates that are in no claim's way.
use Rattle.std.specs.Prelude.{◌≡◌, ℕ, Some, slice_get}
use Rattle.rule_base.specs.declared.instantiation.Candidate.{Candidate}
use Rattle.rule_base.specs.declared.lock.Busy.{Busy}
use Rattle.interference.specs.Footprint.{Clash, footprint}
use Rattle.standing_claims.specs.declared.claim.Claim.{Claim}
use Rattle.firing_core.specs.declared.claims.ClaimRefusal.{ClaimRefusal}
use Rattle.firing_core.specs.declared.claims.ClaimRefusal.TheVariants as refusal
use Rattle.firing_core.specs.CoreState.{CoreState}

-- the footprint of no claim that stands clashes with the candidate's
abbrev pub IsClear : CoreState → Candidate → Type 0
IsClear k candidate =
    (at : ℕ) (claim : Claim) → slice_get k.claims at ≡ Some claim → Clash (footprint k.program claim.candidate) (footprint k.program candidate) → ⊥

-- a refusal for another reason than that a lock is busy
abbrev pub IsNotBusy : ClaimRefusal → Type 0
IsNotBusy told = (busy : Busy) → told ≡ refusal.Busy busy → ⊥
