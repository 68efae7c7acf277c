use Rattle.ops_reader.proofs.ExactLemmas.{one_reading}
use Rattle.ops_reader.proofs.laws.text_has_one_reading.Goals as goal

pub returns : goal.returns
returns c = one_reading
