-- The canonical text of actions and of the expressions in them.
use Rattle.std.specs.Prelude.{ℕ, List, ◌++◌, codes, decimal}
use Rattle.std.specs.Fmt.{signed_decimal}
use Rattle.ops_text.specs.Names.{Names}
use Rattle.rule_base.specs.declared.expression.Op.{Op}
use Rattle.rule_base.specs.declared.expression.Op.TheVariants as op
use Rattle.rule_base.specs.Expression.{Tree, single, joined, Leaf, number, parentheses}
use Rattle.rule_base.specs.Expression as tree
use Rattle.ops_reader.specs.declared.form.FormAction.{FormAction}
use Rattle.ops_reader.specs.declared.form.FormAction.TheVariants as an_action
use Rattle.ops_reader.specs.declared.form.At.{At}
use Rattle.ops_reader.specs.declared.form.At.TheVariants as a_place
use Rattle.ops_reader.specs.declared.form.FormTerm.{FormTerm}
use Rattle.ops_reader.specs.declared.form.FormTerm.TheVariants as a_term
use Rattle.ops_reader.specs.declared.form.FormItem.{FormItem}
use Rattle.ops_reader.specs.declared.form.FormItem.TheVariants as an_item
use Rattle.ops_reader.specs.FormTree.{form_tree}
use Rattle.form_printer.specs.CanonicalValues.{symbol_text, variable_text, constant_text, spaced, setting_text}

-- an operator
abbrev pub operator_text : Op → List ℕ
operator_text op.Add = codes "+"
operator_text op.Sub = codes "-"
operator_text op.Mul = codes "*"
operator_text op.Div = codes "//"
operator_text op.Rem = codes "\\\\"

abbrev mutual
  -- an expression, with a space round each operator
  pub expression_text : Names → Tree → List ℕ
  expression_text names (single leaf) = operand_text names leaf
  expression_text names (joined leaf op rest) = operand_text names leaf ++ codes " " ++ operator_text op ++ codes " " ++ expression_text names rest

  -- an operand
  pub operand_text : Names → Leaf → List ℕ
  operand_text names (number z) = signed_decimal z
  operand_text names (tree.variable n) = variable_text names n
  operand_text names (parentheses inner) = codes "(" ++ expression_text names inner ++ codes ")"

-- a value
abbrev pub term_text : Names → FormTerm → List ℕ
term_text names (a_term.Con v) = constant_text names v
term_text names (a_term.Name n) = variable_text names n
term_text names (a_term.Compute e) = codes "(compute " ++ expression_text names (form_tree e) ++ codes ")"

-- the number of a condition element, or an element variable
abbrev pub designator_text : Names → At → List ℕ
designator_text names (a_place.Number z) = signed_decimal z
designator_text names (a_place.Name n) = variable_text names n

-- what is written
abbrev pub item_text : Names → FormItem → List ℕ
item_text names (an_item.Put t) = term_text names t
item_text names an_item.Crlf = codes "(crlf)"
item_text names (an_item.Tabto column) = codes "(tabto " ++ decimal column ++ codes ")"
item_text names (an_item.Rjust width) = codes "(rjust " ++ decimal width ++ codes ")"

-- an action
abbrev pub action_text : Names → FormAction → List ℕ
action_text names (an_action.Make class sets) =
    codes "(make " ++ symbol_text names class ++ spaced (setting_text names (term_text names)) sets ++ codes ")"
action_text names (an_action.Modify at sets) =
    codes "(modify " ++ designator_text names at ++ spaced (setting_text names (term_text names)) sets ++ codes ")"
action_text names (an_action.Remove ats) = codes "(remove" ++ spaced (designator_text names) ats ++ codes ")"
action_text names (an_action.Bind name t) = codes "(bind " ++ variable_text names name ++ codes " " ++ term_text names t ++ codes ")"
action_text names (an_action.Write items) = codes "(write" ++ spaced (item_text names) items ++ codes ")"
action_text names an_action.Halt = codes "(halt)"
