-- The law is a lemma about the definitions.
use Rattle.interference.proofs.ClashLemmas.{ShareStripe-clash}
use Rattle.interference.proofs.laws.only_stripes_clash.Goals as goal

pub returns : goal.returns
returns c = ShareStripe-clash
