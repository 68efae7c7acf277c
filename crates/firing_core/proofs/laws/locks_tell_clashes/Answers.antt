-- The law is a lemma about the definitions.
use Rattle.firing_core.proofs.WhyLemmas.{locks_tell_clashes}
use Rattle.firing_core.proofs.laws.locks_tell_clashes.Goals as goal

pub returns : goal.returns
returns c = locks_tell_clashes
