-- The first stores are packed.
use Rattle.std.proofs.Common.{◌≡◌}
use Rattle.rule_base.specs.Numbers.{has_number}
use Rattle.alpha_memory.specs.Stores.{packed}
use Rattle.match_network.proofs.PackingLemmas.{front_changed}
use Rattle.match_network.proofs.packing.pack_stores.Given as goal

abbrev pub invariant-loop-number : goal.invariant-loop-number
invariant-loop-number l = l.alpha ≡ front_changed (packed (has_number l.arrivals.places)) l.number l.fn.alpha
