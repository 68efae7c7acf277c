use Rattle.std.proofs.Common.{◌≡◌, ◌≤◌, ◌+◌, length, drop, []}
use Rattle.std.specs.List.{flat_map}
use Rattle.ops_reader.specs.Named.{numbers_in_action}
use Rattle.rule_checker.specs.Walk.{after_each}
use Rattle.rule_checker.specs.RightSide.{with_action}
use Rattle.rule_checker.proofs.right_side.right_side.Given as goal

-- what is left leads to the same end, with at most a variable more for each name in it
abbrev pub invariant-loop-action : goal.invariant-loop-action
invariant-loop-action l = record {
  same : after_each (with_action l.classes l.elements) l.right (drop l.action-index l.actions) ≡ after_each (with_action l.classes l.elements) (record { actions = []; scope = l.fn.scope }) l.actions;
  count : l.right.scope.vars + length (flat_map numbers_in_action (drop l.action-index l.actions)) ≤ l.fn.scope.vars + length (flat_map numbers_in_action l.actions);
}
