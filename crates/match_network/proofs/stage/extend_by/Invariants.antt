-- Some of what is to be added was added, and what is left was filed.
use Rattle.std.proofs.Common.{◌≡◌, ◌+◌, ◌<◌, ◌≤◌, length, reverse}
use Rattle.std.specs.List.{AllByRecursion}
use Rattle.hash_buckets.specs.Buckets.{numbers_of}
use Rattle.match_network.specs.Joining.{extended}
use Rattle.alpha_memory.specs.Times.{times}
use Rattle.match_network.specs.Tried.{has_key}
use Rattle.match_network.specs.SoFar.{IsSoFar}
use Rattle.match_network.proofs.stage.extend_by.Given as goal

abbrev pub invariant-loop-place : goal.invariant-loop-place
invariant-loop-place g l = record {
  so_far : IsSoFar l.stage.next.now l.stage.arrivals.now.came l.fn.after l.after (extended l.stage.join.now l.stage.arrivals.now.came l.row (reverse (numbers_of l.store.entries l.hash))) (extended l.stage.join.now l.stage.arrivals.now.came l.row l.place-iterator);
  within : AllByRecursion (λ p. p < length l.stage.arrivals.now.came) l.place-iterator;
  width : length l.row + 1 ≡ l.after.width;
  steps : l.steps + times (has_key l.stage.join.now l.stage.arrivals.now.came l.row) l.place-iterator ≤ l.fn.steps + times (has_key l.stage.join.now l.stage.arrivals.now.came l.row) (reverse (numbers_of l.store.entries l.hash));
}
