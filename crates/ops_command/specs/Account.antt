-- What is said of a call.
use Rattle.std.specs.Prelude.{◌≡◌, ◌⊎◌, ℕ, List}
use Rattle.ops_command.specs.declared.plan.Plan.{Plan}
use Rattle.ops_command.specs.declared.status.Status.{Status}
use Rattle.ops_command.specs.declared.status.Status.TheVariants as status
use Rattle.ops_command.specs.Findings.{Findings, findings_of, no_findings}
use Rattle.ops_command.specs.Refusals.{refusal_line}

-- the status, what the report tells beside it, and the text that is to be written
pub record Account : Type 0 where
  pub status : Status
  pub found : Findings
  pub text : List ℕ

-- what is said where nothing runs: the line of the status, and nothing else
abbrev pub refusal : Status → Account
refusal said = record { status = said; found = no_findings; text = refusal_line said }

-- what a plan says
abbrev pub account_of : Plan → Account
account_of plan = record { status = plan.report.status; found = findings_of plan.report; text = plan.text.items }

-- a refusal under this status is what is to be said, or else memory ran out
abbrev pub IsRefusal : (Account → Type 0) → Status → Type 0
IsRefusal IsSaid said = (said ≡ status.OutOfMemory) ⊎ IsSaid (refusal said)
