-- The firings so far.
use Rattle.std.proofs.Common.{◌≡◌, map, take}
use Rattle.commit_journal.specs.Firings.{firing_before}
use Rattle.commit_journal.proofs.firing.firings_before.Given as goal

abbrev pub invariant-loop-firing : goal.invariant-loop-firing
invariant-loop-firing l = l.before.items ≡ map (firing_before l.by) (take l.firing-index l.firings)
