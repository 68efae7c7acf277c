-- The grammar of actions and of the expressions in them.
use Rattle.std.specs.Prelude.{ℕ, zero, suc}
use Rattle.rule_base.specs.declared.expression.Op.{Op}
use Rattle.rule_base.specs.declared.expression.Op.TheVariants as op
use Rattle.rule_base.specs.Expression.{Tree, single, joined, Leaf, number, parentheses}
use Rattle.rule_base.specs.Expression as tree
use Rattle.ops_tokens.specs.declared.token.Keyword.TheVariants as a_keyword
use Rattle.ops_reader.specs.declared.form.FormAction.{FormAction}
use Rattle.ops_reader.specs.declared.form.FormAction.TheVariants as an_action
use Rattle.ops_reader.specs.declared.form.At.{At}
use Rattle.ops_reader.specs.declared.form.At.TheVariants as a_place
use Rattle.ops_reader.specs.declared.form.FormTerm.{FormTerm}
use Rattle.ops_reader.specs.declared.form.FormTerm.TheVariants as a_term
use Rattle.ops_reader.specs.declared.form.FormItem.{FormItem}
use Rattle.ops_reader.specs.declared.form.FormItem.TheVariants as an_item
use Rattle.ops_reader.specs.FormTree.{form_tree}
use Rattle.ops_tokens.specs.Token.{Open, Close, Minus, Slashes, Integer}
use Rattle.ops_reader.specs.Phrase.{Phrase, never, ◌⨾◌, any, some, the, keyword, up_to}
use Rattle.ops_reader.specs.Values.{symbol, variable, literal, setting}

-- an operator
abbrev pub operator : Op → Phrase
operator op.Add = keyword a_keyword.Plus
operator op.Sub = the Minus
operator op.Mul = keyword a_keyword.Star
operator op.Div = the Slashes
operator op.Rem = keyword a_keyword.Backslashes

abbrev mutual
  -- an operand, and any further ones behind operators, where parentheses may stand in one another so deep
  pub expression : ℕ → Tree → Phrase
  expression room (single leaf) = operand room leaf
  expression room (joined leaf op rest) = operand room leaf ⨾ operator op ⨾ expression room rest

  -- an integer, a variable, or an expression in parentheses
  pub operand : ℕ → Leaf → Phrase
  operand room (number z) = the (Integer z)
  operand room (tree.variable n) = variable n
  operand zero (parentheses inner) = never
  operand (suc room) (parentheses inner) = the Open ⨾ expression room inner ⨾ the Close

-- a value: a literal, a variable, or a `compute`, in which parentheses may stand in one another 32 deep
abbrev pub term : FormTerm → Phrase
term (a_term.Con v) = literal v
term (a_term.Name n) = variable n
term (a_term.Compute e) = the Open ⨾ keyword a_keyword.Compute ⨾ expression 32 (form_tree e) ⨾ the Close

-- the number of a positive condition element, or an element variable
abbrev pub designator : At → Phrase
designator (a_place.Number z) = the (Integer z)
designator (a_place.Name n) = variable n

-- what is written: a value, an end of line, or how the next value is to be placed
abbrev pub item : FormItem → Phrase
item (an_item.Put t) = term t
item an_item.Crlf = the Open ⨾ keyword a_keyword.Crlf ⨾ the Close
item (an_item.Tabto column) = the Open ⨾ keyword a_keyword.Tabto ⨾ up_to 255 column ⨾ the Close
item (an_item.Rjust width) = the Open ⨾ keyword a_keyword.Rjust ⨾ up_to 255 width ⨾ the Close

-- an action of a rule
abbrev pub action : FormAction → Phrase
action (an_action.Make class sets) = the Open ⨾ keyword a_keyword.Make ⨾ symbol class ⨾ any (setting term) sets ⨾ the Close
action (an_action.Modify at sets) = the Open ⨾ keyword a_keyword.Modify ⨾ designator at ⨾ any (setting term) sets ⨾ the Close
action (an_action.Remove ats) = the Open ⨾ keyword a_keyword.Remove ⨾ some designator ats ⨾ the Close
action (an_action.Bind name t) = the Open ⨾ keyword a_keyword.Bind ⨾ variable name ⨾ term t ⨾ the Close
action (an_action.Write items) = the Open ⨾ keyword a_keyword.Write ⨾ any item items ⨾ the Close
action an_action.Halt = the Open ⨾ keyword a_keyword.Halt ⨾ the Close
