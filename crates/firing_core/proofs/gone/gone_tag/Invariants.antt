-- The first that has gone is among the elements that are left.
use Rattle.std.proofs.Common.{◌≡◌, drop}
use Rattle.firing_core.specs.Refusals.{gone_tag}
use Rattle.firing_core.specs.Store.{memory_in}
use Rattle.firing_core.proofs.gone.gone_tag.Given as goal

abbrev pub invariant-loop-at : goal.invariant-loop-at
invariant-loop-at l = gone_tag (memory_in l.store) (drop l.at l.elements) ≡ gone_tag (memory_in l.store) l.elements
