-- What the command promises: each answer has its cause.
use Rattle.ops_command.specs.declared.status.Report.{Report}
use Rattle.ops_command.specs.Call.{Call}
use Rattle.ops_command.specs.Answer.{IsAnswer}

-- the report keeps the promise to the call
pub record KeepsPromise (call : Call) (report : Report) : Type 0 where
  -- the status has its cause, and what was written and is told is what belongs to it
  pub caused : IsAnswer call report report.status
