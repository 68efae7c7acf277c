-- The elements at the slots so far have been added.
use Rattle.std.proofs.Common.{◌≡◌, ◌++◌, take}
use Rattle.firing_core.specs.Store.{living_at}
use Rattle.firing_core.proofs.store.Store.add_to.Given as goal

abbrev pub invariant-loop-place : goal.invariant-loop-place
invariant-loop-place l = l.elements ≡ l.fn.elements ++ living_at l.self (take l.place-index l.place-items)
