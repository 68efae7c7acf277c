-- What was dropped is no candidate, and no mark has changed.
use Rattle.std.proofs.Common.{◌≡◌, ℕ, vec_len}
use Rattle.conflict_parts.specs.Part.{IsPart}
use Rattle.conflict_parts.specs.Standings.{is_marked}
use Rattle.conflict_parts.proofs.candidates.next_free.Given as goal

abbrev pub invariant-loop-last : goal.invariant-loop-last
invariant-loop-last g l = record {
  part : IsPart l.network l.standings l.queue.items l.waiters;
  network : l.network ≡ l.fn.network;
  marks : (rule row : ℕ) → is_marked l.standings rule row ≡ is_marked l.fn.standings rule row;
}

abbrev pub decreases-loop-last : goal.decreases-loop-last
decreases-loop-last g l = vec_len l.queue
