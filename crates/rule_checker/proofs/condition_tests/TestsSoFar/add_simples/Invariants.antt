use Rattle.std.proofs.Common.{◌≡◌, ◌≤◌, ◌+◌, length, drop}
use Rattle.std.specs.List.{flat_map}
use Rattle.ops_reader.specs.Named.{numbers_in_simple}
use Rattle.rule_checker.specs.Walk.{after_each}
use Rattle.rule_checker.specs.ConditionTests.{with_simple}
use Rattle.rule_checker.proofs.condition_tests.TestsSoFar.add_simples.Given as goal

-- what is left leads to the same end, with at most a variable more for each name in it
abbrev pub invariant-loop-simple : goal.invariant-loop-simple
invariant-loop-simple l = record {
  same : after_each (with_simple l.negated l.attr) l.self (drop l.simple-index l.simples) ≡ after_each (with_simple l.negated l.attr) l.fn.self l.simples;
  count : l.self.scope.vars + length (flat_map numbers_in_simple (drop l.simple-index l.simples)) ≤ l.fn.self.scope.vars + length (flat_map numbers_in_simple l.simples);
}
