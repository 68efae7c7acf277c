-- Those of the rules so far are marked.
use Rattle.std.proofs.Common.{◌≡◌, nat_lt}
use Rattle.firing_workers.specs.Feeding.{AreMarked, has_place}
use Rattle.firing_workers.proofs.feeding.mark_rules.Given as goal

abbrev pub invariant-loop-rule : goal.invariant-loop-rule
invariant-loop-rule l = record {
  marked : AreMarked (has_place l.fn.index) (λ other number. nat_lt other l.rule) l.fn.part l.part;
  index : l.index ≡ l.fn.index;
}
