-- The law is a lemma about the definitions.
use Rattle.interference.proofs.WordLemmas.{words_tell_clashes}
use Rattle.interference.proofs.laws.words_tell_clashes.Goals as goal

pub returns : goal.returns
returns c = words_tell_clashes
