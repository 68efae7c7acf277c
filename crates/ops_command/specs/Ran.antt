-- The answer that a program ran: its choices are a run of the recognise-act machine from its base. Each choice matched
-- and was unfired at its step; memory, time tags, text and ending are that run's.
use Rattle.std.specs.Prelude.{◌≡◌, ℕ, List, Some}
use Rattle.rule_base.specs.declared.instantiation.Choice.{Choice}
use Rattle.rule_base.specs.declared.program.Program.{Program}
use Rattle.rule_base.specs.declared.base.Base.{Base}
use Rattle.rule_base.specs.declared.base.Refraction.TheVariants.{Once}
use Rattle.rule_base.specs.declared.entry.Ending.{Ending}
use Rattle.rule_base.specs.State.{State, opening_base, start}
use Rattle.rule_base.specs.Run.{run}
use Rattle.rule_base.specs.Ending.{IsEnding}
use Rattle.ops_text.specs.Names.{Names}
use Rattle.ops_command.specs.declared.status.Status.{Status}
use Rattle.ops_command.specs.Account.{Account}
use Rattle.ops_command.specs.ProgramText.{NamedProgram}
use Rattle.ops_command.specs.MemoryText.{NamedOpening}
use Rattle.ops_command.specs.EndingWords.{status_of}
use Rattle.ops_command.specs.RunReport.{run_report}

-- what a run begins with: the program, its base, how many firings it may have, and the names of its symbols
pub record RunFrom : Type 0 where
  pub program : Program
  pub base : Base
  pub budget : ℕ
  pub names : Names

-- the start of a program from its opening memory, in which no choice fires twice
abbrev pub start_of : ℕ → NamedProgram → NamedOpening → RunFrom
start_of budget named opening =
    record { program = named.program; base = opening_base opening.elements Once; budget = budget; names = opening.names }

-- these choices, fired one after another, lead to the state, which may end so
pub record ComesTo (from : RunFrom) (choices : List Choice) (state : State) (end : Ending) : Type 0 where
  pub ran : run from.program (start from.base) choices ≡ Some state
  pub ends : IsEnding from.program from.budget state end

-- the program ran to an ending
pub record Ran (from : RunFrom) (account : Account) : Type 0 where
  pub state : State
  pub end : Ending
  pub comes : ComesTo from account.found.choices state end
  pub memory : account.found.memory ≡ state.memory
  pub next : account.found.next ≡ state.next
  pub under : account.status ≡ status_of end
  pub printed : account.text ≡ run_report from.program from.names end state

-- the status is that of an ending to which some choices lead
pub record IsOfEnding (from : RunFrom) (said : Status) : Type 0 where
  pub choices : List Choice
  pub state : State
  pub end : Ending
  pub comes : ComesTo from choices state end
  pub under : said ≡ status_of end
