-- How an expression is evaluated from its last operand on.
use Rattle.std.specs.Prelude.{ℤ, Option, None, Some, Result}
use Rattle.rule_base.specs.declared.value.Value.{Value}
use Rattle.rule_base.specs.declared.expression.Op.{Op}
use Rattle.rule_base.specs.declared.expression.Operand.{Operand}
use Rattle.rule_base.specs.declared.expression.Operand.TheFolds.{fold-Operand}
use Rattle.rule_base.specs.declared.expression.Operand.TheOpen as open'
use Rattle.rule_base.specs.declared.entry.FaultCause.{FaultCause}
use Rattle.rule_base.specs.Chains.{◌>>=◌}
use Rattle.rule_base.specs.Expression.{Tree, Leaf, chained, leaf_of}
use Rattle.rule_base.specs.Compute.{applied, number_of}

-- the leaf that an operand of a program is
abbrev pub leaf : Operand → Leaf
leaf = fold-Operand Leaf Tree leaf_of (λ (e : open'.Expr-F Leaf Tree). chained e.first e.rest)

-- the number that the value of an operand is, where it has one
abbrev pub number_in : Result Value FaultCause → Result ℤ FaultCause
number_in value = value >>= number_of

-- what an operand gives, once an operator is applied to it and to what stands to its right, if there is any
abbrev pub with_right : Option (Op × ℤ) → Result ℤ FaultCause → Result ℤ FaultCause
with_right None left = left
with_right (Some next) left = left >>= λ a. applied next.0 a next.1
