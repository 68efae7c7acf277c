use Rattle.ops_tokens.proofs.ShapeLemmas.{has_shape_of_its_kind}
use Rattle.ops_tokens.proofs.laws.words_have_the_shapes_of_their_kinds.Goals as goal

pub returns : goal.returns
returns c = has_shape_of_its_kind
