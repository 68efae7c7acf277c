-- The law is the lemma on distinct names.
use Rattle.ops_text.proofs.NamesLemmas.{AreOneToOne-from_distinct}
use Rattle.ops_text.proofs.laws.numbers_are_one_to_one.Goals as goal

pub returns : goal.returns
returns c = AreOneToOne-from_distinct
