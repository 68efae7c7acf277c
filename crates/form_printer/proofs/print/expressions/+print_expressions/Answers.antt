-- The text of all operands is that of the expression.
use Rattle.std.proofs.Common.{arith}
use Rattle.std.proofs.lemmas.Grind.{common_steps}
use Rattle.form_printer.proofs.PrintLemmas.{expression_text-links}
use Rattle.form_printer.proofs.print.expressions.+print_expressions.Goals as goal

pub print_expression-returns : goal.print_expression-returns
print_expression-returns t c =
    let text = expression_text-links c.args.symbols.now c.args.expression.now in
    let i = c.loop-op.invariant in
    grind (arith, common_steps, text, i)
