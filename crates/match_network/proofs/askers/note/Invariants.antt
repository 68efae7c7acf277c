-- Only stores that nobody asks were added.
use Rattle.std.proofs.Common.{◌≡◌, ℕ, ◌+◌, ◌-◌, length}
use Rattle.match_network.specs.Rules.{askers_at}
use Rattle.match_network.proofs.askers.note.Given as goal

abbrev pub invariant-loop-alloc : goal.invariant-loop-alloc
invariant-loop-alloc l = (at : ℕ) → askers_at l.askers.items at ≡ askers_at l.fn.askers.items at

abbrev pub decreases-loop-alloc : goal.decreases-loop-alloc
decreases-loop-alloc l = (l.store + 1) - length l.askers.items
