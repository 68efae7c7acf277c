use Rattle.std.proofs.Common.{◌≡◌, ◌≤◌, ◌+◌, length, drop}
use Rattle.std.specs.List.{flat_map}
use Rattle.ops_reader.specs.Named.{numbers_in_condition}
use Rattle.rule_checker.specs.Walk.{after_each}
use Rattle.rule_checker.specs.LeftSide.{with_cond, no_conditions}
use Rattle.rule_checker.specs.Kept.{HasFewConditions}
use Rattle.rule_checker.proofs.left_side.left_side.Given as goal

-- what is left leads to the same end, with at most a variable more for each name in it
abbrev pub invariant-loop-cond : goal.invariant-loop-cond
invariant-loop-cond l = record {
  same : after_each (with_cond l.classes) l.left (drop l.cond-index l.conds) ≡ after_each (with_cond l.classes) no_conditions l.conds;
  few : HasFewConditions l.left;
  count : l.left.scope.vars + length (flat_map numbers_in_condition (drop l.cond-index l.conds)) ≤ length (flat_map numbers_in_condition l.conds);
}
