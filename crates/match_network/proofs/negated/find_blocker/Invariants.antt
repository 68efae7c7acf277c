-- At the first of the negated condition elements the row is free.
use Rattle.std.proofs.Common.{◌≡◌, ◌+◌, ◌≤◌, take, true}
use Rattle.std.specs.List.{list_all}
use Rattle.join_tests.specs.Meaning.{is_free}
use Rattle.match_network.specs.Conditions.{AreCleaned}
use Rattle.match_network.specs.Negated.{blockers_tried}
use Rattle.match_network.specs.Row.{elements_of}
use Rattle.match_network.proofs.negated.find_blocker.Given as goal

abbrev pub invariant-loop-number : goal.invariant-loop-number
invariant-loop-number g l = record {
  free : list_all (is_free (elements_of l.arrivals.came l.arrivals.places) (elements_of l.arrivals.came l.row)) (take l.number l.negated) ≡ true;
  cleaned : AreCleaned l.arrivals.places l.fn.alpha l.alpha;
  steps : l.steps ≤ l.fn.steps + blockers_tried (take l.number l.negated) l.arrivals.came l.arrivals.places l.row;
}
