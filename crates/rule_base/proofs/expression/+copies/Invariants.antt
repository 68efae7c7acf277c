-- The copies so far are the pairs so far, and the first operand's copy stays.
use Rattle.std.proofs.Common.{◌≡◌, take}
use Rattle.rule_base.proofs.expression.+copies.Given as goal

abbrev pub invariant-expression_copy-loop-op : goal.invariant-expression_copy-loop-op
invariant-expression_copy-loop-op l = record {
  rest : l.rest ≡ take l.op-index l.op-items;
  first : l.first ≡ l.initial.first;
}
