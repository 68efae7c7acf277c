-- Firings: which choice may come next, and how a firing changes a core.
use Rattle.std.specs.Prelude.{◌≡◌, ℕ, true, false, Option, Some, Result, Err}
use Rattle.rule_base.specs.declared.instantiation.Choice.{Choice}
use Rattle.rule_base.specs.declared.entry.FaultCause.{FaultCause}
use Rattle.rule_base.specs.Effect.{Effect, Failure}
use Rattle.rule_base.specs.State.{IsUnfired}
use Rattle.rule_base.specs.Step.{matches, step}
use Rattle.rule_base.specs.Ending.{is_quiet}
use Rattle.rhs_actions.specs.declared.refusal.EffectRefusal.{EffectRefusal}
use Rattle.rhs_actions.specs.declared.refusal.EffectRefusal.TheVariants as effect
use Rattle.firing_core.specs.CoreState.{CoreState, IsSameRun}

-- the choice matches and has not fired, so that the run is not quiet
pub record IsLeft (k : CoreState) (c : Choice) : Type 0 where
  pub matching : matches k.program k.state.memory c ≡ true
  pub unfired : IsUnfired k.state c
  pub not_quiet : is_quiet k.program k.state ≡ false

-- the choice has fired: the state is one step further, and all else stays
pub record Fires (old new : CoreState) (c : Choice) : Type 0 where
  pub steps : step old.program old.state c ≡ Some new.state
  pub same : IsSameRun old new
  pub claims : (new.claims ≡ old.claims) × (new.given ≡ old.given)
  pub fault : new.fault ≡ old.fault

-- a refusal to fire a choice tells its first failing action with the cause, or that memory is wanting
pub record TellsFault (defined : Option (Result Effect Failure)) (refusal : EffectRefusal) : Type 0 where
  pub failed : (action : ℕ) (cause : FaultCause) → refusal ≡ effect.Failed action cause → defined ≡ Some (Err (record { action = action; cause = cause }))
