-- The levels so far are without rows.
use Rattle.match_network.proofs.StartLemmas.{AreEmpty}
use Rattle.match_network.proofs.weaving.new_levels.Given as goal

abbrev pub invariant-loop-number : goal.invariant-loop-number
invariant-loop-number l = AreEmpty l.levels.items l.number
