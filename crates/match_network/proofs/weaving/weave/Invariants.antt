-- The place is on its way, and what is filed stays right.
use Rattle.std.proofs.Common.{◌+◌, ◌-◌, ◌≤◌}
use Rattle.match_network.specs.Tried.{woven_tried}
use Rattle.match_network.specs.Conditions.{AreCleaned, AreFiled, joins_of, rows_of}
use Rattle.match_network.proofs.WayLemmas.{IsOnWay}
use Rattle.match_network.proofs.weaving.weave.Given as goal

abbrev pub invariant-loop-number : goal.invariant-loop-number
invariant-loop-number g l = record {
  way : IsOnWay (joins_of l.conditions.joins.now) l.conditions.arrivals.now.came l.conditions.arrivals.now.places l.place l.at (rows_of l.fn.levels) (rows_of l.levels) l.number l.first;
  filed : AreFiled l.conditions.joins.now l.conditions.arrivals.now.came l.conditions.arrivals.now.places l.levels;
  cleaned : AreCleaned l.conditions.arrivals.now.places l.fn.alpha l.alpha;
  steps : l.steps ≤ l.fn.steps + woven_tried l.conditions.joins.now l.conditions.arrivals.now.came l.conditions.arrivals.now.places l.place l.at (rows_of l.fn.levels l.at) (l.number - (l.at + 1));
}
