-- What stands to the right is what all operands from the place on give.
use Rattle.std.proofs.Common.{drop}
use Rattle.rhs_actions.proofs.ExpressionLemmas.{GivesAll}
use Rattle.rhs_actions.proofs.expressions.+values.Given as goal

abbrev pub invariant-computed-loop-at : goal.invariant-computed-loop-at
invariant-computed-loop-at l = GivesAll l.binds (drop l.at l.rest) l.right
