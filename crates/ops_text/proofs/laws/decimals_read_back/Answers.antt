-- The law is the lemma on texts of integers.
use Rattle.ops_text.proofs.NumeralLemmas.{reads_back}
use Rattle.ops_text.proofs.laws.decimals_read_back.Goals as goal

pub returns : goal.returns
returns c = reads_back
