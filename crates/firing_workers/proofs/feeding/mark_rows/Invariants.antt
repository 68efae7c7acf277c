-- Those of the rule's rows so far are marked.
use Rattle.std.proofs.Common.{◌≡◌, ◌==◌, ◌&&◌, nat_lt}
use Rattle.firing_workers.specs.Feeding.{AreMarked, has_place}
use Rattle.firing_workers.proofs.feeding.mark_rows.Given as goal

abbrev pub invariant-loop-row : goal.invariant-loop-row
invariant-loop-row l = record {
  marked : AreMarked (has_place l.fn.index) (λ other number. (other == l.rule) && nat_lt number l.row) l.fn.part l.part;
  index : l.index ≡ l.fn.index;
}
