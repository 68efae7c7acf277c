-- The law is a lemma about the definitions.
use Rattle.refraction_index.proofs.StillFiredLemmas.{last_firing_tells}
use Rattle.refraction_index.proofs.laws.last_firing_tells.Goals as goal

pub returns : goal.returns
returns c = last_firing_tells
