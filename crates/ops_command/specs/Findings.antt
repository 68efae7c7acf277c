-- What a report says beside its status.
use Rattle.std.specs.Prelude.{ℕ, List, []}
use Rattle.rule_base.specs.declared.instantiation.Choice.{Choice}
use Rattle.rule_base.specs.Memory.{Memory}
use Rattle.rule_base.specs.State.{State}
use Rattle.rule_base.specs.State.{choices_of}
use Rattle.ops_command.specs.declared.status.Report.{Report}

-- the choices that fired, in order, the working memory in the end, and the next time tag
pub record Findings : Type 0 where
  pub choices : List Choice
  pub memory : Memory
  pub next : ℕ

-- what a report finds
abbrev pub findings_of : Report → Findings
findings_of report = record { choices = choices_of report.journal.entries; memory = report.memory; next = report.journal.next }

-- what a report of no run says
abbrev pub no_findings : Findings
no_findings = record { choices = []; memory = []; next = 1 }

-- what a run came to
abbrev pub of_run : State → Findings
of_run s = record { choices = choices_of s.entries; memory = s.memory; next = s.next }
