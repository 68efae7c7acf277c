-- The first rules are packed.
use Rattle.match_network.proofs.PackingLemmas.{ArePackedTo}
use Rattle.match_network.proofs.packing.pack_rules.Given as goal

abbrev pub invariant-loop-number : goal.invariant-loop-number
invariant-loop-number l = ArePackedTo l.arrivals.came l.arrivals.places l.number l.fn.rules l.rules
