-- The rules of those who were due so far.
use Rattle.std.proofs.Common.{◌≡◌, ℕ, take, true}
use Rattle.std.specs.List.{list_any}
use Rattle.match_network.specs.Touched.{is_of}
use Rattle.conflict_parts.specs.Renewing.{AllAreNoted, AreNoted}
use Rattle.conflict_parts.proofs.renewing.note_due.Given as goal

abbrev pub invariant-loop-asker : goal.invariant-loop-asker
invariant-loop-asker l = record {
  noted : AreNoted l.network l.place l.fn.queue.items l.queue.items;
  all : (rule : ℕ) → list_any (is_of rule) (take l.asker-index l.due) ≡ true → AllAreNoted l.network l.place l.standings rule l.fn.queue.items l.queue.items;
}
