-- The exit status of the program.
use Rattle.std.specs.Prelude.{◌≡◌, ℕ}
use Rattle.ops_command.specs.declared.status.Report.{Report}
use Rattle.ops_command.specs.declared.status.Status.{Status}
use Rattle.ops_command.specs.declared.status.Status.TheVariants.{Quiet, Halted, Usage, Spent, Fault, ReadFault, WriteFault, TooLong, Syntax, Check, OutOfMemory}
use Rattle.ops_command.specs.Call.{Call}
use Rattle.ops_command.specs.Promise.{KeepsPromise}

-- the number by which the program tells how a call ended
abbrev pub exit_number : Status → ℕ
exit_number Quiet = 0
exit_number Halted = 0
exit_number (Usage kind) = 2
exit_number (Spent n) = 3
exit_number (Fault choice action cause) = 4
exit_number (ReadFault file) = 5
exit_number WriteFault = 6
exit_number (Syntax file at kind) = 7
exit_number (Check file form kind) = 8
exit_number (TooLong file) = 9
exit_number OutOfMemory = 10

-- the promise to the call is kept by a report, whose status has this number
pub record EndsWith (call : Call) (number : ℕ) : Type 0 where
  pub report : Report
  pub kept : KeepsPromise call report
  pub numbered : number ≡ exit_number report.status
