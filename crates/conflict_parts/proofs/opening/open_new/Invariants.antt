-- Some have come to stand.
use Rattle.std.proofs.Common.{◌≡◌, ◌-◌, [], length, slice_index_or}
use Rattle.conflict_parts.specs.Change.{HasOpened}
use Rattle.conflict_parts.proofs.opening.open_new.Given as goal

abbrev pub invariant-loop-standings : goal.invariant-loop-standings
invariant-loop-standings l = record {
  opened : HasOpened l.network.rules l.fn.standings l.fn.queue.items l.standings l.queue.items;
  count : length l.standings ≡ length l.network.rules;
}

abbrev pub decreases-loop-standings : goal.decreases-loop-standings
decreases-loop-standings l = l.count - length (slice_index_or l.standings l.rule [])
