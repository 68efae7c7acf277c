use Rattle.ops_reader.proofs.ExactLemmas.{reads_fronts, reads_texts}
use Rattle.ops_reader.proofs.laws.reading_is_exact.Goals as goal

pub returns-clause-fronts : goal.returns-clause-fronts
returns-clause-fronts c = reads_fronts

pub returns-clause-texts : goal.returns-clause-texts
returns-clause-texts c = reads_texts
