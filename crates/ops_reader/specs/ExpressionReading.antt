-- What one more token makes of a part of an expression.
use Rattle.std.specs.Prelude.{List, [], ◌∷◌, ◌++◌, length, nat_lt, Bool, true, false, Option, Some, None}
use Rattle.std.specs.Option.{option_map}
use Rattle.ops_text.specs.Names.{Names}
use Rattle.rule_base.specs.declared.expression.Op.{Op}
use Rattle.rule_base.specs.declared.expression.Op.TheVariants as op
use Rattle.ops_tokens.specs.declared.token.Keyword.TheVariants as a_keyword
use Rattle.ops_reader.specs.declared.form.FormExpr.{FormExpr, roll-FormExpr}
use Rattle.ops_reader.specs.declared.form.FormOperand.{FormOperand, roll-FormOperand}
use Rattle.ops_reader.specs.declared.form.FormOperand.TheOpen as an_operand
use Rattle.ops_reader.specs.declared.part.Step.{Step}
use Rattle.ops_reader.specs.declared.part.Step.TheVariants.{Part, Whole}
use Rattle.ops_reader.specs.declared.part.ExprPart.{ExprPart}
use Rattle.ops_reader.specs.declared.part.Before.{Before}
use Rattle.ops_reader.specs.declared.part.Before.TheVariants as of_before
use Rattle.ops_reader.specs.declared.part.Inner.{Inner}
use Rattle.ops_reader.specs.declared.part.Inner.TheVariants as of_inner
use Rattle.ops_tokens.specs.Token.{Token, Open, Close, Minus, Slashes, Integer, Plain}
use Rattle.ops_reader.specs.Taken.{Taken, variable_of, grown}

-- an operator
abbrev pub operator_of : Token → Option Op
operator_of (Plain word (Some a_keyword.Plus)) = Some op.Add
operator_of Minus = Some op.Sub
operator_of (Plain word (Some a_keyword.Star)) = Some op.Mul
operator_of Slashes = Some op.Div
operator_of (Plain word (Some a_keyword.Backslashes)) = Some op.Rem
operator_of token = None

-- an operand, behind what stands before it
abbrev pub with_operand : Before → FormOperand → FormExpr
with_operand of_before.Nothing operand = roll-FormExpr (record { first = operand; rest = [] })
with_operand (of_before.Operator e op) operand = roll-FormExpr (record { first = e.first; rest = e.rest ++ (op, operand) ∷ [] })

-- an operand has been read
abbrev pub behind : List Before → Before → FormOperand → ExprPart
behind outer before operand = record { outer = outer; inner = of_inner.Behind (with_operand before operand) }

-- an operand is to come
abbrev pub ahead : List Before → Before → ExprPart
ahead outer before = record { outer = outer; inner = of_inner.Before before }

-- a part in one more parenthesis
abbrev pub enclosed : Before → ExprPart → ExprPart
enclosed before part = record { outer = before ∷ part.outer; inner = part.inner }

-- an expression in parentheses
abbrev pub in_parentheses : FormExpr → FormOperand
in_parentheses e = roll-FormOperand (an_operand.Paren e)

-- the end of the innermost of these parentheses
abbrev pub parenthesis_closed : Before → List Before → FormExpr → ExprPart
parenthesis_closed before [] e = behind [] before (in_parentheses e)
parenthesis_closed before (next ∷ outer) e = enclosed before (parenthesis_closed next outer e)

-- the end of the innermost parenthesis, or of the expression where none is open
abbrev pub closed : List Before → FormExpr → Step ExprPart FormExpr
closed [] e = Whole e
closed (before ∷ outer) e = Part (parenthesis_closed before outer e)

-- one more parenthesis, which is allowed or not
abbrev pub parenthesis_opened : Bool → Names → List Before → Before → Taken (Step ExprPart FormExpr)
parenthesis_opened true names outer before = Some (names, Part (ahead (outer ++ before ∷ []) of_before.Nothing))
parenthesis_opened false names outer before = None

-- an operand without parentheses: an integer or a variable
abbrev pub operand_of : Names → Token → Taken FormOperand
operand_of names (Integer z) = Some (names, roll-FormOperand (an_operand.Num z))
operand_of names token = option_map (λ v. (v.0, roll-FormOperand (an_operand.Name v.1))) (variable_of names token)

-- where an operand is to come. At most 32 parentheses may stand in one another
abbrev pub operand_after : Names → List Before → Before → Token → Taken (Step ExprPart FormExpr)
operand_after names outer before Open = parenthesis_opened (nat_lt (length outer) 32) names outer before
operand_after names outer before token = grown (behind outer before) (operand_of names token)

-- behind an operand
abbrev pub operator_after : Names → List Before → FormExpr → Token → Taken (Step ExprPart FormExpr)
operator_after names outer e Close = Some (names, closed outer e)
operator_after names outer e token = option_map (λ op. (names, Part (ahead outer (of_before.Operator e op)))) (operator_of token)

-- any part of an expression behind the last open parenthesis
abbrev pub inner_after : Names → List Before → Inner → Token → Taken (Step ExprPart FormExpr)
inner_after names outer (of_inner.Before before) token = operand_after names outer before token
inner_after names outer (of_inner.Behind e) token = operator_after names outer e token

-- any part of an expression
abbrev pub expression_after : Names → ExprPart → Token → Taken (Step ExprPart FormExpr)
expression_after names part token = inner_after names part.outer part.inner token
