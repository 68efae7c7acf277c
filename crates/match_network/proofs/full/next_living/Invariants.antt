-- The rows looked at so far are dead.
use Rattle.std.proofs.Common.{◌≡◌, drop, filter}
use Rattle.match_network.specs.Row.{is_living}
use Rattle.match_network.proofs.full.next_living.Given as goal

abbrev pub invariant-loop-number : goal.invariant-loop-number
invariant-loop-number l = filter (is_living l.arrivals.places) (drop l.number l.rows.rows) ≡ filter (is_living l.arrivals.places) (drop l.from l.rows.rows)
