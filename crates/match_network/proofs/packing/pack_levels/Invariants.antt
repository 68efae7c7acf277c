-- The first levels are packed.
use Rattle.match_network.proofs.PackingLemmas.{IsPackedTo}
use Rattle.match_network.proofs.packing.pack_levels.Given as goal

abbrev pub invariant-loop-number : goal.invariant-loop-number
invariant-loop-number l = IsPackedTo l.joins l.arrivals.came l.arrivals.places l.number l.fn.levels l.levels
