-- The law is a lemma about the definitions.
use Rattle.firing_core.proofs.FiredChoiceLemmas.{IsLawfulBase-fired}
use Rattle.firing_core.proofs.laws.fired_make_bases.Goals as goal

pub returns : goal.returns
returns c = IsLawfulBase-fired
