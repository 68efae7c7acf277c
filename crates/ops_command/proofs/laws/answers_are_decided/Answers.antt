use Rattle.ops_command.proofs.DecidedLaw.{answers_are_decided}
use Rattle.ops_command.proofs.laws.answers_are_decided.Goals as goal

pub returns : goal.returns
returns c = answers_are_decided
