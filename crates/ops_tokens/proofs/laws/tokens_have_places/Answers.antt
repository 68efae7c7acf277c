use Rattle.ops_tokens.proofs.PlaceLemmas.{have_places}
use Rattle.ops_tokens.proofs.laws.tokens_have_places.Goals as goal

pub returns : goal.returns
returns c = have_places
