use Rattle.ops_reader.proofs.DecidedLemmas.{is_decided}
use Rattle.ops_reader.proofs.laws.texts_are_decided.Goals as goal

pub returns : goal.returns
returns c = is_decided
