-- The element is one of the memory that joins.
use Rattle.match_network.proofs.BlockLemmas.{blocked_is_not_free}
use Rattle.match_network.proofs.laws.blocked_rows_are_not_free.Goals as goal

pub returns : goal.returns
returns c = blocked_is_not_free
