-- The living rows so far were taken.
use Rattle.std.proofs.Common.{◌≡◌, [], drop, filter}
use Rattle.match_network.specs.Row.{is_living}
use Rattle.match_network.specs.SoFar.{IsSoFar}
use Rattle.match_network.proofs.level.Level.pack.Given as goal

abbrev pub invariant-loop-number : goal.invariant-loop-number
invariant-loop-number l = record {
  so_far : IsSoFar l.next l.arrivals.came (record { width = l.self-inside.rows.width; rows = []; entries = [] }) l.packed (filter (is_living l.arrivals.places) l.self-inside.rows.rows) (filter (is_living l.arrivals.places) (drop l.number l.self-inside.rows.rows));
  width : l.packed.width ≡ l.self-inside.rows.width;
}
