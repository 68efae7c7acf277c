-- Those with numbers so far.
use Rattle.conflict_parts.specs.Renewing.{AreNoted}
use Rattle.conflict_parts.proofs.RenewingLemmas.{AreNotedBelow}
use Rattle.conflict_parts.proofs.renewing.note_rows.Given as goal

abbrev pub invariant-loop-row : goal.invariant-loop-row
invariant-loop-row l = record {
  noted : AreNoted l.network l.place l.fn.queue.items l.queue.items;
  all : AreNotedBelow l.network l.place l.standings l.rule l.row l.fn.queue.items l.queue.items;
}
