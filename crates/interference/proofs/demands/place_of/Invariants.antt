-- All demands so far are of lesser locks.
use Rattle.std.proofs.Common.{◌≡◌, ◌+◌, drop}
use Rattle.interference.specs.Finding.{lesser}
use Rattle.interference.proofs.demands.place_of.Given as goal

abbrev pub invariant-loop-at : goal.invariant-loop-at
invariant-loop-at l = lesser l.lock l.demands ≡ l.at + lesser l.lock (drop l.at l.demands)
