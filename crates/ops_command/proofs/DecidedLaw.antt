-- The promise decides each status, where no count of faults rose.
use Rattle.std.proofs.Common.{inr, refl}
use Rattle.ops_command.specs.declared.status.Status.{Status}
use Rattle.ops_command.specs.declared.status.Status.TheVariants as status
use Rattle.ops_command.specs.declared.status.Report.{Report}
use Rattle.ops_command.specs.Call.{Call}
use Rattle.ops_command.specs.Answer.{IsAnswer}
use Rattle.ops_command.specs.Decided.{HasNoFault, IsDecided}
use Rattle.ops_command.specs.Promise.{KeepsPromise}
use Rattle.ops_command.proofs.DecidedLemmas.{IsDecided-said}

-- want of memory may come at any time
IsDecided-out_of_memory : (call : Call) → IsDecided call status.OutOfMemory
IsDecided-out_of_memory call = record {
  usage = λ kind faulty. inr refl;
  program_too_long = λ asked bytes asks long. inr refl;
  program_text = λ asked bytes asks short. record { syntax = λ at why refused. inr refl; check = λ forms after violation text violated. inr refl };
  memory_too_long = λ asked named bytes asks long. inr refl;
  memory_text = λ asked named bytes asks short. record { syntax = λ at why refused. inr refl; check = λ forms after violation text violated. inr refl };
  runs = λ asked named opening asks. inr refl;
}

IsDecided-answer : (call : Call) (report : Report) (said : Status) → HasNoFault call → IsAnswer call report said → IsDecided call said
IsDecided-answer call report status.Quiet calm written = IsDecided-said call _ calm written.is_said
IsDecided-answer call report status.Halted calm written = IsDecided-said call _ calm written.is_said
IsDecided-answer call report (status.Fault choice action why) calm written = IsDecided-said call _ calm written.is_said
IsDecided-answer call report (status.Usage kind) calm written = IsDecided-said call _ calm written.is_said
IsDecided-answer call report (status.Spent n) calm written = IsDecided-said call _ calm written.is_said
IsDecided-answer call report (status.ReadFault kind) calm written = IsDecided-said call _ calm written.is_said
IsDecided-answer call report status.WriteFault calm fault = absurd (calm.writing fault.fault)
IsDecided-answer call report (status.TooLong kind) calm written = IsDecided-said call _ calm written.is_said
IsDecided-answer call report (status.Syntax kind at why) calm written = IsDecided-said call _ calm written.is_said
IsDecided-answer call report (status.Check kind form why) calm written = IsDecided-said call _ calm written.is_said
IsDecided-answer call report status.OutOfMemory calm nothing = IsDecided-out_of_memory call

pub answers_are_decided : (call : Call) (report : Report) → KeepsPromise call report → HasNoFault call → IsDecided call report.status
answers_are_decided call report kept calm = IsDecided-answer call report report.status calm kept.caused
