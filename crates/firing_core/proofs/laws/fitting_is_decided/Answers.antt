-- The law is a lemma about the definitions.
use Rattle.firing_core.proofs.FittingLemmas.{fitting_is_decided}
use Rattle.firing_core.proofs.laws.fitting_is_decided.Goals as goal

pub returns : goal.returns
returns c = fitting_is_decided
