-- How deep parentheses stand in one another in what is spelled.
use Rattle.std.proofs.Common.{ℕ, zero, suc, ◌≤◌, List, [], ◌∷◌, arith}
use Rattle.std.specs.List.{AllByRecursion}
use Rattle.ops_text.specs.Names.{Names}
use Rattle.rule_base.specs.Expression.{Tree, single, joined, Leaf, number, parentheses, depth, leaf_depth}
use Rattle.rule_base.specs.Expression as tree
use Rattle.ops_reader.specs.declared.form.FormAction.{FormAction}
use Rattle.ops_reader.specs.declared.form.FormAction.TheVariants as an_action
use Rattle.ops_reader.specs.declared.form.FormTerm.{FormTerm}
use Rattle.ops_reader.specs.declared.form.FormTerm.TheVariants as a_term
use Rattle.ops_reader.specs.declared.form.FormItem.{FormItem}
use Rattle.ops_reader.specs.declared.form.FormItem.TheVariants as an_item
use Rattle.ops_reader.specs.FormTree.{form_tree}
use Rattle.ops_tokens.specs.Token.{Token}
use Rattle.ops_reader.specs.Grammar.{Phrase, any, setting, expression, operand, term, item, action}
use Rattle.ops_reader.specs.Shape.{IsShallow, IsShallowSet, IsShallowItem, IsAction}

mutual
  pub expression_depth : (room : ℕ) (t : Tree) (before : Names) (tokens : List Token) (after : Names) → expression room t before tokens after → depth t ≤ room
  expression_depth room (single l) before tokens after h = operand_depth room l before tokens after h
  expression_depth room (joined l op rest) before tokens after h =
      let first : leaf_depth l ≤ room = operand_depth room l before h.of_first.front h.of_first.between h.of_first.of_first in
      let others : depth rest ≤ room = expression_depth room rest h.between h.back after h.of_second in
      omega (arith, first, others)

  operand_depth : (room : ℕ) (l : Leaf) (before : Names) (tokens : List Token) (after : Names) → operand room l before tokens after → leaf_depth l ≤ room
  operand_depth room (number z) before tokens after h = omega arith
  operand_depth room (tree.variable n) before tokens after h = omega arith
  operand_depth zero (parentheses inner) before tokens after h = absurd h
  operand_depth (suc room) (parentheses inner) before tokens after h =
      let within : depth inner ≤ room = expression_depth room inner h.of_first.between h.of_first.back h.between h.of_first.of_second in
      omega (arith, within)

pub all_of_any : {A : Type 0} (phrase : A → Phrase) (P : A → Type 0) → ((a : A) (before : Names) (tokens : List Token) (after : Names) → phrase a before tokens after → P a)
    → (xs : List A) (before : Names) (tokens : List Token) (after : Names) → any phrase xs before tokens after → AllByRecursion P xs
all_of_any phrase P each [] before tokens after h = tt
all_of_any phrase P each (x ∷ xs) before tokens after h = (each x before h.front h.between h.of_first, all_of_any phrase P each xs h.between h.back after h.of_second)

term_is_shallow : (t : FormTerm) (before : Names) (tokens : List Token) (after : Names) → term t before tokens after → IsShallow t
term_is_shallow (a_term.Compute e) before tokens after h = expression_depth 32 (form_tree e) h.of_first.between h.of_first.back h.between h.of_first.of_second
term_is_shallow t before tokens after h = tt

set_is_shallow : (set : ℕ × FormTerm) (before : Names) (tokens : List Token) (after : Names) → setting term set before tokens after → IsShallowSet set
set_is_shallow set before tokens after h = term_is_shallow set.1 h.between h.back after h.of_second

item_is_shallow : (i : FormItem) (before : Names) (tokens : List Token) (after : Names) → item i before tokens after → IsShallowItem i
item_is_shallow (an_item.Put t) before tokens after h = term_is_shallow t before tokens after h
item_is_shallow i before tokens after h = tt

pub action_has_shape : (one : FormAction) (before : Names) (tokens : List Token) (after : Names) → action one before tokens after → IsAction one
action_has_shape (an_action.Make class sets) before tokens after h =
    all_of_any (setting term) IsShallowSet set_is_shallow sets h.of_first.between h.of_first.back h.between h.of_first.of_second
action_has_shape (an_action.Modify at sets) before tokens after h =
    all_of_any (setting term) IsShallowSet set_is_shallow sets h.of_first.between h.of_first.back h.between h.of_first.of_second
action_has_shape (an_action.Bind name t) before tokens after h = term_is_shallow t h.of_first.between h.of_first.back h.between h.of_first.of_second
action_has_shape (an_action.Write items) before tokens after h =
    all_of_any item IsShallowItem item_is_shallow items h.of_first.between h.of_first.back h.between h.of_first.of_second
action_has_shape (an_action.Remove []) before tokens after h = absurd h.of_first.of_second
action_has_shape (an_action.Remove (at ∷ ats)) before tokens after h = omega arith
action_has_shape an_action.Halt before tokens after h = tt
