-- The law is a lemma about the definitions.
use Rattle.interference.proofs.UndisturbedLemmas.{IsUndisturbed-step}
use Rattle.interference.proofs.laws.firings_dont_disturb.Goals as goal

pub returns : goal.returns
returns c = IsUndisturbed-step
