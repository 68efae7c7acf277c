-- The count so far, over rules of which each has few condition elements.
use Rattle.std.proofs.Common.{◌≡◌, ◌*◌, ◌≤◌, take}
use Rattle.interference.specs.Splits.{pin_count}
use Rattle.interference.proofs.splits.pin_count.Given as goal

abbrev pub invariant-loop-rule : goal.invariant-loop-rule
invariant-loop-rule l = record {
  count : l.count ≡ pin_count (take l.rule-index l.rules) l.class l.attr;
  few : l.count ≤ 32 * l.rule-index;
}
