-- The first stores are counted.
use Rattle.std.proofs.Common.{take}
use Rattle.alpha_memory.specs.Stores.{places_filed}
use Rattle.match_network.specs.Held.{Covers}
use Rattle.match_network.proofs.held.count_links.Given as goal

abbrev pub invariant-loop-number : goal.invariant-loop-number
invariant-loop-number l = Covers l.count (places_filed (take l.number l.alpha))
