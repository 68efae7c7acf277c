-- The operands from left to right.
use Rattle.std.proofs.Common.{Ok, sym, ap, ◌∙◌}
use Rattle.std.proofs.lemmas.Result.{err_from_is_err_and}
use Rattle.rule_checker.proofs.ExpressionLemmas.{expression_of-ok, expression_of-refused}
use Rattle.rule_checker.proofs.expressions.+expressions.Goals as goal

pub expression_of-returns-in_err-operand_of-clause-refused : goal.expression_of-returns-in_err-operand_of-clause-refused
expression_of-returns-in_err-operand_of-clause-refused t c =
    let p = err_from_is_err_and c.from_residual-in_err-operand_of.result c.from_residual-in_err-operand_of.ensures.1 in
    rw (p.1, p.2)
    (expression_of-refused c.args.expression.now c.args.scope.now c.in_ok-first.first c.loop-op.rest c.as_slice-op-items.result.now c.loop-op.op-index c.loop-op-item.result _
    c.in_ok-first.ensures.ok c.as_slice-op-items.ensures c.loop-op-test.true c.loop-op-item.is c.in_err-operand_of.ensures.refused c.loop-op.invariant.same)

pub expression_of-returns-clause-ok : goal.expression_of-returns-clause-ok
expression_of-returns-clause-ok t c =
    expression_of-ok c.args.expression.now c.args.scope.now _ c.loop-op.rest c.as_slice-op-items.result.now c.loop-op.op-index
    (c.in_ok-first.ensures.ok ∙ ap Ok (sym c.loop-op.invariant.first)) c.as_slice-op-items.ensures c.loop-op-test.false c.loop-op.invariant.same
