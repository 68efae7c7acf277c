-- Those who still wait at the place are left.
use Rattle.std.proofs.Common.{◌≡◌, ℕ, [], length, reverse, slice_index_or}
use Rattle.conflict_parts.specs.Queue.{IsOpened}
use Rattle.conflict_parts.specs.Waiters.{waiters_at}
use Rattle.conflict_parts.proofs.QueueLemmas.{AreLeft}
use Rattle.conflict_parts.proofs.queue.wake.Given as goal

abbrev pub invariant-loop-id : goal.invariant-loop-id
invariant-loop-id l = record {
  opened : IsOpened l.fn.standings l.fn.queue.items l.standings l.queue.items;
  lengths : (rule : ℕ) → length (slice_index_or l.standings rule []) ≡ length (slice_index_or l.fn.standings rule []);
  left : AreLeft l.place (reverse (waiters_at l.waiters l.place)) l.standings l.id-iterator;
}
