-- The rules of the expressions of `compute`: each variable is bound.
use Rattle.std.specs.Prelude.{List, [], ◌∷◌, ◌++◌, Result, Ok}
use Rattle.rule_base.specs.declared.expression.Op.{Op}
use Rattle.rule_base.specs.declared.expression.Operand.{Operand, roll-Operand}
use Rattle.rule_base.specs.declared.expression.Expr.{Expr, roll-Expr}
use Rattle.rule_base.specs.declared.expression.Operand.TheOpen as made
use Rattle.rule_base.specs.Chains.{◌>>=◌}
use Rattle.ops_reader.specs.declared.form.FormOperand.{FormOperand, fold-FormOperand}
use Rattle.ops_reader.specs.declared.form.FormExpr.{FormExpr, fold-FormExpr}
use Rattle.ops_reader.specs.declared.form.FormOperand.TheOpen as written
use Rattle.rule_checker.specs.declared.refusal.CheckKind.{CheckKind}
use Rattle.rule_checker.specs.declared.scope.Scope.{Scope}
use Rattle.rule_checker.specs.Scope.{bound_to_its_left}
use Rattle.rule_checker.specs.Walk.{after_each}

-- what a written operand, and a written expression, become where these variables are bound
abbrev pub MadeOperand : Type 0
MadeOperand = Scope → Result Operand CheckKind

abbrev pub MadeExpression : Type 0
MadeExpression = Scope → Result Expr CheckKind

-- an operand, where the expressions inside it are made already: its variable is bound
abbrev pub with_inner : written.FormOperand-F MadeOperand MadeExpression → MadeOperand
with_inner (written.Num z) scope = Ok (roll-Operand (made.Num z))
with_inner (written.Name name) scope = bound_to_its_left scope name >>= λ var. Ok (roll-Operand (made.Var var))
with_inner (written.Paren inner) scope = inner scope >>= λ e. Ok (roll-Operand (made.Paren e))

-- one operator more, with its operand
abbrev pub with_operand : Scope → List (Op × Operand) → Op × MadeOperand → Result (List (Op × Operand)) CheckKind
with_operand scope done next = next.1 scope >>= λ operand. Ok (done ++ (next.0, operand) ∷ [])

-- an expression of operands that are made already, from left to right
abbrev pub joined : written.FormExpr-F MadeOperand MadeExpression → MadeExpression
joined e scope =
    e.first scope >>= λ first. after_each (with_operand scope) [] e.rest >>= λ rest. Ok (roll-Expr (record { first = first; rest = rest }))

-- the expression of a compute
abbrev pub expression_of : FormExpr → MadeExpression
expression_of = fold-FormExpr MadeOperand MadeExpression with_inner joined

-- an operand inside it
abbrev pub operand_of : FormOperand → MadeOperand
operand_of = fold-FormOperand MadeOperand MadeExpression with_inner joined
