-- The parenthesis that a bracket closes is the innermost, which was opened last.
use Rattle.std.proofs.Common.{rules}
use Rattle.ops_reader.proofs.ExpressionLemmas.{closed-push}
use Rattle.ops_reader.proofs.step.expression.closed.Goals as goal

pub returns-in_ok-expression-in-Some : goal.returns-in_ok-expression-in-Some
returns-in_ok-expression-in-Some c = rw (c.in-Some.ensures, closed-push) (search rules)
