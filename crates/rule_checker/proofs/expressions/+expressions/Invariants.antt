-- What is left leads to the same end.
use Rattle.std.proofs.Common.{◌≡◌, [], drop}
use Rattle.rule_checker.specs.Walk.{after_each}
use Rattle.rule_checker.specs.Expressions.{with_operand}
use Rattle.rule_checker.proofs.ExpressionLemmas.{made_each}
use Rattle.rule_checker.proofs.expressions.+expressions.Given as goal

abbrev pub invariant-expression_of-loop-op : goal.invariant-expression_of-loop-op
invariant-expression_of-loop-op l = record {
  same : after_each (with_operand l.scope) l.rest (made_each (drop l.op-index l.op-items)) ≡ after_each (with_operand l.scope) [] (made_each l.op-items);
  first : l.first ≡ l.initial.first;
}
