-- How a run may end.
use Rattle.std.specs.Prelude.{◌≡◌, ℕ, ◌<◌, ◌≤◌, Bool, true, false, Some, Err}
use Rattle.std.specs.List.{list_all}
use Rattle.rule_base.specs.declared.instantiation.Choice.{Choice}
use Rattle.rule_base.specs.declared.program.Program.{Program}
use Rattle.rule_base.specs.declared.entry.FaultCause.{FaultCause}
use Rattle.rule_base.specs.declared.entry.Ending.{Ending}
use Rattle.rule_base.specs.declared.entry.Ending.TheVariants.{Quiet, Halted, Spent, Fault}
use Rattle.rule_base.specs.ConflictSet.{conflict_set}
use Rattle.rule_base.specs.State.{State, count, has_fired, IsUnfired}
use Rattle.rule_base.specs.Step.{effect_of, is_listed}

-- whether every choice of the conflict set is among the fired ones
abbrev pub is_quiet : Program → State → Bool
is_quiet program s = list_all (has_fired s) (conflict_set program s.memory)

-- how many firings a run may be given
pub record IsBudget (firings : ℕ) : Type 0 where
  pub some : 1 ≤ firings
  pub few : firings ≤ 4000000

-- nothing halted, and nothing is left to fire
pub record IsQuiet (program : Program) (s : State) : Type 0 where
  pub going : s.halted ≡ false
  pub fired : is_quiet program s ≡ true

-- nothing halted, something is left, and the budget is used up
pub record IsSpent (program : Program) (budget : ℕ) (s : State) (n : ℕ) : Type 0 where
  pub going : s.halted ≡ false
  pub left : is_quiet program s ≡ false
  pub used : count s ≡ budget
  pub told : n ≡ budget

-- nothing halted, the budget isn't used up, and this choice of the conflict set is unfired and fails first at this
-- action for this cause
pub record IsFault (program : Program) (budget : ℕ) (s : State) (c : Choice) (action : ℕ) (cause : FaultCause) : Type 0 where
  pub going : s.halted ≡ false
  pub within : count s < budget
  pub matching : is_listed program s.memory c ≡ true
  pub unfired : IsUnfired s c
  pub fails : effect_of program s.memory c ≡ Some (Err (record { action = action; cause = cause }))

-- how a run may end: a halt counts before all else, and a run that is quiet isn't spent
abbrev pub EndsAs : Program → ℕ → State → Ending → Type 0
EndsAs program budget s Halted = s.halted ≡ true
EndsAs program budget s Quiet = IsQuiet program s
EndsAs program budget s (Spent n) = IsSpent program budget s n
EndsAs program budget s (Fault c action cause) = IsFault program budget s c action cause

-- a state within this budget of firings may end so
pub record IsEnding (program : Program) (budget : ℕ) (s : State) (end : Ending) : Type 0 where
  pub few : count s ≤ budget
  pub ends : EndsAs program budget s end
