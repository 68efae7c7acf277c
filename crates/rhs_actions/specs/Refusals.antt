-- What a refusal says beside what is defined.
use Rattle.std.specs.Prelude.{◌≡◌, ℕ, Result, Err}
use Rattle.rule_base.specs.declared.entry.FaultCause.{FaultCause}
use Rattle.rule_base.specs.Effect.{Failure}
use Rattle.rhs_actions.specs.declared.refusal.Stop.{Stop}
use Rattle.rhs_actions.specs.declared.refusal.Stop.TheVariants.{Fails, OutOfMemory}
use Rattle.rhs_actions.specs.declared.refusal.EffectRefusal.{EffectRefusal}
use Rattle.rhs_actions.specs.declared.refusal.EffectRefusal.TheVariants as effect

-- a refusal of a right-hand side tells its first failing action with the cause, or that memory is wanting
pub record TellsFailure {A : Type 0} (defined : Result A Failure) (refusal : EffectRefusal) : Type 0 where
  pub failed : (action : ℕ) (cause : FaultCause) → refusal ≡ effect.Failed action cause → defined ≡ Err (record { action = action; cause = cause })

-- an action that isn't done tells why it fails, or that memory is wanting
pub record Tells {A : Type 0} (defined : Result A FaultCause) (stop : Stop) : Type 0 where
  pub fails : (cause : FaultCause) → stop ≡ Fails cause → defined ≡ Err cause

-- the refusal of the action with this number
abbrev pub refusal_at : ℕ → Stop → EffectRefusal
refusal_at action (Fails cause) = effect.Failed action cause
refusal_at action OutOfMemory = effect.OutOfMemory
