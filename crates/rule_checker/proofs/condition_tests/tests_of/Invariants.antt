use Rattle.std.proofs.Common.{◌≡◌, ◌≤◌, ◌+◌, length, drop, []}
use Rattle.std.specs.List.{flat_map}
use Rattle.rule_checker.specs.Walk.{after_each}
use Rattle.rule_checker.specs.ConditionTests.{with_tests}
use Rattle.rule_checker.specs.Kept.{numbers_in_tests}
use Rattle.rule_checker.proofs.condition_tests.tests_of.Given as goal

-- what is left leads to the same end, with at most a variable more for each name in it
abbrev pub invariant-loop-attribute : goal.invariant-loop-attribute
invariant-loop-attribute l = record {
  same : after_each (with_tests l.negated l.attrs) l.done (drop l.attribute-index l.written) ≡ after_each (with_tests l.negated l.attrs) (record { tests = []; scope = l.fn.scope }) l.written;
  count : l.done.scope.vars + length (flat_map numbers_in_tests (drop l.attribute-index l.written)) ≤ l.fn.scope.vars + length (flat_map numbers_in_tests l.written);
}
