-- What comes of the rows so far was added, and of the store only what is dead has gone.
use Rattle.std.proofs.Common.{◌≡◌, ◌+◌, ◌≤◌, drop}
use Rattle.match_network.specs.Filed.{only}
use Rattle.match_network.specs.Conditions.{AreCleaned}
use Rattle.match_network.specs.SoFar.{IsSoFar}
use Rattle.match_network.specs.Tried.{pairs_tried}
use Rattle.match_network.specs.Woven.{grown}
use Rattle.match_network.proofs.stage.grow.Given as goal

abbrev pub invariant-loop-number : goal.invariant-loop-number
invariant-loop-number g l = record {
  so_far : IsSoFar l.stage.next.now l.stage.arrivals.now.came l.fn.after l.after (grown (only l.stage.join.now) l.stage.arrivals.now.came l.stage.arrivals.now.places (drop l.first l.from.rows)) (grown (only l.stage.join.now) l.stage.arrivals.now.came l.stage.arrivals.now.places (drop l.number l.from.rows));
  stores : AreCleaned l.stage.arrivals.now.places l.fn.alpha l.alpha;
  width : l.from.width + 1 ≡ l.after.width;
  steps : l.steps + pairs_tried l.stage.join.now l.stage.arrivals.now.came l.stage.arrivals.now.places (drop l.number l.from.rows) ≤ l.fn.steps + pairs_tried l.stage.join.now l.stage.arrivals.now.came l.stage.arrivals.now.places (drop l.first l.from.rows);
}
