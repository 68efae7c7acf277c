-- Expressions and actions are read back.
use Rattle.std.proofs.Common.{ℕ, zero, suc, List, [], ◌++◌, codes, decimal, refl, arith}
use Rattle.ops_text.specs.Names.{Names}
use Rattle.rule_base.specs.declared.expression.Op.{Op}
use Rattle.rule_base.specs.declared.expression.Op.TheVariants as op
use Rattle.rule_base.specs.Expression.{Tree, single, joined, Leaf, number, parentheses}
use Rattle.rule_base.specs.Expression as tree
use Rattle.ops_tokens.specs.declared.token.Keyword.{Keyword}
use Rattle.ops_tokens.specs.declared.token.Keyword.TheVariants as a_keyword
use Rattle.ops_reader.specs.declared.form.FormAction.{FormAction}
use Rattle.ops_reader.specs.declared.form.FormAction.TheVariants as an_action
use Rattle.ops_reader.specs.declared.form.At.{At}
use Rattle.ops_reader.specs.declared.form.At.TheVariants as a_place
use Rattle.ops_reader.specs.declared.form.FormTerm.{FormTerm}
use Rattle.ops_reader.specs.declared.form.FormTerm.TheVariants as a_term
use Rattle.ops_reader.specs.declared.form.FormItem.{FormItem}
use Rattle.ops_reader.specs.declared.form.FormItem.TheVariants as an_item
use Rattle.ops_reader.specs.FormTree.{form_tree}
use Rattle.ops_tokens.specs.Token.{Open, Close, Minus, Slashes}
use Rattle.ops_reader.specs.Grammar.{◌⨾◌, any, some, the, up_to, variable, setting, operator, expression, operand, term, designator, item, action}
use Rattle.form_printer.specs.CanonicalValues.{variable_text, spaced, setting_text}
use Rattle.form_printer.specs.CanonicalActions.{operator_text, expression_text, operand_text, term_text, designator_text, item_text, action_text}
use Rattle.ops_reader.specs.Named.{numbers_in_setting, numbers_in_tree, numbers_in_leaf, numbers_in_term, numbers_in_designator, numbers_in_item, numbers_in_action}
use Rattle.form_printer.proofs.ReadBack.{Prints, PrintsThere, IsReadBack, KeepsNames, the_keeps, keyword_keeps, prints_then, prints_apart, prints_blank, read_behind, read_before, read_both, read_never, read_spaced, spaced_ends}
use Rattle.form_printer.proofs.ReadBackBrackets.{the_prints, keyword_prints, head, head_keeps, head_prints, head_apart, bracket_open, read_fixed, read_closed, read_some, read_title, read_listed}
use Rattle.form_printer.proofs.ReadBackValues.{read_variable, read_integer, read_up_to, read_literal, read_setting}

-- operators
operator_prints : (o : Op) (names : Names) → Prints (operator o) names (operator_text o)
operator_prints op.Add = keyword_prints a_keyword.Plus (codes "+") (omega arith) refl refl
operator_prints op.Sub = the_prints Minus (codes "-") (omega arith) refl refl
operator_prints op.Mul = keyword_prints a_keyword.Star (codes "*") (omega arith) refl refl
operator_prints op.Div = the_prints Slashes (codes "//") (omega arith) refl refl
operator_prints op.Rem = keyword_prints a_keyword.Backslashes (codes "\\\\") (omega arith) refl refl

operator_keeps : (o : Op) → KeepsNames (operator o)
operator_keeps op.Add = keyword_keeps a_keyword.Plus
operator_keeps op.Sub = the_keeps Minus
operator_keeps op.Mul = keyword_keeps a_keyword.Star
operator_keeps op.Div = the_keeps Slashes
operator_keeps op.Rem = keyword_keeps a_keyword.Backslashes

-- expressions
mutual
  read_expression : (room : ℕ) (t : Tree) → IsReadBack (expression room t) (expression room t) (numbers_in_tree t) (λ names. expression_text names t)
  read_expression room (single leaf) = read_operand room leaf
  read_expression room (joined leaf o rest) =
      read_both
      (read_before {r = operand room leaf ⨾ operator o} {whole = λ names. operand_text names leaf ++ codes " " ++ operator_text o} (operator_keeps o) (read_operand room leaf)
      (λ names h. prints_then (prints_blank h) (operator_prints o names)))
      (read_expression room rest) (λ names h k. prints_then (prints_blank h) k)

  read_operand : (room : ℕ) (leaf : Leaf) → IsReadBack (operand room leaf) (operand room leaf) (numbers_in_leaf leaf) (λ names. operand_text names leaf)
  read_operand room (number z) = read_integer z
  read_operand room (tree.variable n) = read_variable n
  read_operand zero (parentheses inner) = read_never (λ before tokens after h. h)
  read_operand (suc room) (parentheses inner) =
      read_closed (read_behind {r = the Open ⨾ expression room inner} {whole = λ names. codes "(" ++ expression_text names inner} (the_keeps Open) (read_expression room inner) (λ names h. prints_then (bracket_open names) h))

-- values
read_term : (t : FormTerm) → IsReadBack (term t) (term t) (numbers_in_term t) (λ names. term_text names t)
read_term (a_term.Con v) = read_literal v
read_term (a_term.Name n) = read_variable n
read_term (a_term.Compute e) =
    read_closed
    (read_behind {r = head a_keyword.Compute ⨾ expression 32 (form_tree e)} {whole = λ names. codes "(compute " ++ expression_text names (form_tree e)} (head_keeps a_keyword.Compute)
    (read_expression 32 (form_tree e)) (λ names h. prints_then (head_apart a_keyword.Compute (codes "compute") (omega arith) refl refl names) h))

read_designator : (at : At) → IsReadBack (designator at) (designator at) (numbers_in_designator at) (λ names. designator_text names at)
read_designator (a_place.Number z) = read_integer z
read_designator (a_place.Name n) = read_variable n

-- a head, a number, and the bracket behind it
pub read_counted : (key : Keyword) (title : List ℕ) (most n : ℕ) → ((names : Names) → PrintsThere (head key) names title)
    → IsReadBack (head key ⨾ up_to most n ⨾ the Close) (head key ⨾ up_to most n ⨾ the Close) [] (λ names. title ++ decimal n ++ codes ")")
read_counted key title most n there =
    read_closed (read_behind {r = head key ⨾ up_to most n} {whole = λ names. title ++ decimal n} (head_keeps key) (read_up_to most n) (λ names h. prints_then (there names) h))

read_item : (i : FormItem) → IsReadBack (item i) (item i) (numbers_in_item i) (λ names. item_text names i)
read_item (an_item.Put t) = read_term t
read_item an_item.Crlf = read_closed (read_fixed (head_keeps a_keyword.Crlf) (head_prints a_keyword.Crlf (codes "crlf") (omega arith) refl refl))
read_item (an_item.Tabto column) = read_counted a_keyword.Tabto (codes "(tabto ") 255 column (head_apart a_keyword.Tabto (codes "tabto") (omega arith) refl refl)
read_item (an_item.Rjust width) = read_counted a_keyword.Rjust (codes "(rjust ") 255 width (head_apart a_keyword.Rjust (codes "rjust") (omega arith) refl refl)

-- actions
read_term_setting : (set : ℕ × FormTerm) → IsReadBack (setting term set) (setting term set) (numbers_in_setting numbers_in_term set) (λ names. setting_text names (term_text names) set)
read_term_setting = read_setting term numbers_in_term term_text read_term

pub read_action : (a : FormAction) → IsReadBack (action a) (action a) (numbers_in_action a) (λ names. action_text names a)
read_action (an_action.Make class sets) =
    read_listed (setting term) (numbers_in_setting numbers_in_term) (λ names. setting_text names (term_text names))
    (read_title a_keyword.Make (codes "(make ") class (head_apart a_keyword.Make (codes "make") (omega arith) refl refl)) read_term_setting sets
read_action (an_action.Modify at sets) =
    read_listed (setting term) (numbers_in_setting numbers_in_term) (λ names. setting_text names (term_text names))
    (read_behind {r = head a_keyword.Modify ⨾ designator at} {whole = λ names. codes "(modify " ++ designator_text names at} (head_keeps a_keyword.Modify) (read_designator at)
    (λ names h. prints_then (head_apart a_keyword.Modify (codes "modify") (omega arith) refl refl names) h))
    read_term_setting sets
read_action (an_action.Remove ats) =
    read_closed
    (read_behind {r = head a_keyword.Remove ⨾ some designator ats} {whole = λ names. codes "(remove" ++ spaced (designator_text names) ats} (head_keeps a_keyword.Remove)
    (read_some designator numbers_in_designator designator_text read_designator ats) (λ names h. prints_apart (spaced_ends (designator_text names) ats) (head_prints a_keyword.Remove (codes "remove") (omega arith) refl refl names) h))
read_action (an_action.Bind name t) =
    read_closed
    (read_both {r = head a_keyword.Bind ⨾ variable name ⨾ term t} {whole = λ names. codes "(bind " ++ variable_text names name ++ codes " " ++ term_text names t}
    (read_behind {r = head a_keyword.Bind ⨾ variable name} {whole = λ names. codes "(bind " ++ variable_text names name} (head_keeps a_keyword.Bind) (read_variable name)
    (λ names h. prints_then (head_apart a_keyword.Bind (codes "bind") (omega arith) refl refl names) h))
    (read_term t) (λ names h k. prints_then (prints_blank h) k))
read_action (an_action.Write items) =
    read_closed
    (read_behind {r = head a_keyword.Write ⨾ any item items} {whole = λ names. codes "(write" ++ spaced (item_text names) items} (head_keeps a_keyword.Write)
    (read_spaced item numbers_in_item item_text read_item items) (λ names h. prints_apart (spaced_ends (item_text names) items) (head_prints a_keyword.Write (codes "write") (omega arith) refl refl names) h))
read_action an_action.Halt = read_closed (read_fixed (head_keeps a_keyword.Halt) (head_prints a_keyword.Halt (codes "halt") (omega arith) refl refl))
