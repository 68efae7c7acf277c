-- The text so far is that of the operands so far.
use Rattle.std.proofs.Common.{◌≡◌, ◌++◌, take}
use Rattle.ops_reader.specs.FormTree.{operand_leaf}
use Rattle.form_printer.specs.CanonicalActions.{operand_text}
use Rattle.form_printer.proofs.PrintLemmas.{links_text}
use Rattle.form_printer.proofs.print.expressions.+print_expressions.Given as goal

abbrev pub invariant-print_expression-loop-op : goal.invariant-print_expression-loop-op
invariant-print_expression-loop-op l =
    l.out.items ≡ l.fn.out.items ++ (operand_text l.symbols (operand_leaf l.expression.first) ++ links_text l.symbols (take l.op-index l.op-items))
