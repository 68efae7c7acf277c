-- The values so far.
use Rattle.std.proofs.Common.{◌≡◌, ◌+◌, drop}
use Rattle.rule_base.specs.Memory.{value_count}
use Rattle.commit_journal.proofs.room.value_count.Given as goal

abbrev pub invariant-loop-at : goal.invariant-loop-at
invariant-loop-at l = l.count + value_count (drop l.at l.elements) ≡ value_count l.elements
