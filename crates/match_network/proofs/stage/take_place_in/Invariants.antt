-- Some of what is to be added was added, and what is left was filed.
use Rattle.std.proofs.Common.{◌≡◌, ◌+◌, ◌<◌, ◌≤◌, map, length, reverse}
use Rattle.std.specs.List.{AllByRecursion}
use Rattle.hash_buckets.specs.Buckets.{numbers_of}
use Rattle.match_network.specs.Joining.{taken}
use Rattle.match_network.specs.Filed.{row_at}
use Rattle.alpha_memory.specs.Times.{times}
use Rattle.match_network.specs.Tried.{tries}
use Rattle.match_network.specs.SoFar.{IsSoFar}
use Rattle.match_network.proofs.stage.take_place_in.Given as goal

abbrev pub invariant-loop-number : goal.invariant-loop-number
invariant-loop-number g l = record {
  so_far : IsSoFar l.stage.next.now l.stage.arrivals.now.came l.fn.after l.after (taken l.stage.join.now l.stage.arrivals.now.came l.place l.before.rows (reverse (numbers_of l.before.entries l.hash))) (taken l.stage.join.now l.stage.arrivals.now.came l.place l.before.rows l.number-iterator);
  within : AllByRecursion (λ n. n < length l.before.rows) l.number-iterator;
  width : l.before.width + 1 ≡ l.after.width;
  steps : l.steps + times (tries l.stage.join.now l.stage.arrivals.now.came l.place) (map (row_at l.before.rows) l.number-iterator) ≤ l.fn.steps + times (tries l.stage.join.now l.stage.arrivals.now.came l.place) (map (row_at l.before.rows) (reverse (numbers_of l.before.entries l.hash)));
}
