-- Finished runs: a core that goes on, and a run that comes to an ending.
use Rattle.std.specs.Prelude.{◌≡◌, ℕ, List, ◌++◌, Some}
use Rattle.rule_base.specs.declared.entry.Entry.{Entry}
use Rattle.rule_base.specs.declared.entry.Ending.{Ending}
use Rattle.rule_base.specs.declared.entry.Ending.TheVariants.{Fault}
use Rattle.rule_base.specs.declared.program.Program.{Program}
use Rattle.rule_base.specs.declared.base.Base.{Base}
use Rattle.rule_base.specs.State.{State, choices_of, start}
use Rattle.rule_base.specs.Run.{run}
use Rattle.rule_base.specs.Ending.{IsEnding}
use Rattle.firing_core.specs.declared.claims.FaultSeen.{FaultSeen}
use Rattle.firing_core.specs.declared.claims.How.TheVariants as how
use Rattle.firing_core.specs.CoreState.{CoreState, IsSameRun, ended}

-- the first journal begins with all of the second
abbrev pub BeginsWith : List Entry → List Entry → Type 0
BeginsWith journal first = (more : List Entry) × (journal ≡ first ++ more)

-- a core that has gone on: it is of the same run, and its journal has the old one as a prefix
pub record GoesOn (old new : CoreState) : Type 0 where
  pub same : IsSameRun old new
  pub journal : BeginsWith new.state.entries old.state.entries

-- where the core has ended as a fault, this ending is the fault that it keeps
abbrev pub TellsKeptFault : CoreState → Ending → Type 0
TellsKeptFault k end = (seen : FaultSeen) → ended k ≡ Some how.Fault → k.fault ≡ Some seen → end ≡ Fault seen.choice seen.action seen.cause

-- from this base the program has run to this state, which may end so within this budget
pub record IsFinishedRun (program : Program) (base : Base) (budget : ℕ) (state : State) (end : Ending) : Type 0 where
  pub ran : run program (start base) (choices_of state.entries) ≡ Some state
  pub ends : IsEnding program budget state end
