-- The first of the stores are noted.
use Rattle.std.proofs.Common.{take}
use Rattle.match_network.proofs.AskerLemmas.{AreNoted}
use Rattle.match_network.proofs.askers.note_all.Given as goal

abbrev pub invariant-loop-condition : goal.invariant-loop-condition
invariant-loop-condition l = AreNoted l.rule l.fn.askers.items (take l.condition l.stores) l.askers.items
