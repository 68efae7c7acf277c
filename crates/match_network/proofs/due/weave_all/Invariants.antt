-- The first of those that are due were woven in, and no more was touched.
use Rattle.std.proofs.Common.{◌+◌, ◌≤◌, take}
use Rattle.std.specs.List.{sum_by}
use Rattle.match_network.specs.Held.{RowsHeld}
use Rattle.match_network.specs.Rules.{AreWovenIn}
use Rattle.match_network.specs.Tried.{due_tried}
use Rattle.match_network.specs.Touched.{AreTouched}
use Rattle.match_network.proofs.due.weave_all.Given as goal

abbrev pub invariant-loop-number : goal.invariant-loop-number
invariant-loop-number g l = record {
  woven : AreWovenIn l.arrivals.came l.arrivals.places l.place l.alpha (take l.number l.due) l.fn.rules l.rules;
  steps : l.steps ≤ l.fn.steps + sum_by (due_tried l.fn.rules l.arrivals.came l.arrivals.places l.place) (take l.number l.due);
  touched : AreTouched l.arrivals.places l.due l.fn.alpha l.alpha l.fn.rules l.rules;
  held : RowsHeld l.fn.held l.fn.rules l.fn.alpha → RowsHeld l.held l.rules l.alpha;
}
