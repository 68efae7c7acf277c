-- The count so far.
use Rattle.std.proofs.Common.{◌≡◌, ◌≤◌, length, take}
use Rattle.std.specs.List.{filter}
use Rattle.interference.specs.Splits.{is_pinning}
use Rattle.interference.proofs.splits.pinning_count.Given as goal

abbrev pub invariant-loop-cond : goal.invariant-loop-cond
invariant-loop-cond l = record {
  count : l.count ≡ length (filter (is_pinning l.class l.attr l.conds) (take l.cond-index l.conds));
  few : l.count ≤ l.cond-index;
}
