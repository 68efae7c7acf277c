-- The numbers of names that stand in forms, and that each was given.
use Rattle.std.specs.Prelude.{ℕ, ◌<◌, List, [], ◌∷◌, ◌++◌, Option, Some, None, length}
use Rattle.std.specs.List.{AllByRecursion, flat_map}
use Rattle.ops_text.specs.Names.{Names}
use Rattle.rule_base.specs.declared.value.Value.{Value}
use Rattle.rule_base.specs.declared.value.Value.TheVariants as a_value
use Rattle.rule_base.specs.Expression.{Tree, single, joined, Leaf, number, variable, parentheses}
use Rattle.ops_reader.specs.declared.form.Form.{Form}
use Rattle.ops_reader.specs.declared.form.Form.TheVariants as a_form
use Rattle.ops_reader.specs.declared.form.FormCond.{FormCond}
use Rattle.ops_reader.specs.declared.form.Simple.{Simple}
use Rattle.ops_reader.specs.declared.form.Simple.TheVariants as a_test
use Rattle.ops_reader.specs.declared.form.FormArg.{FormArg}
use Rattle.ops_reader.specs.declared.form.FormArg.TheVariants as an_argument
use Rattle.ops_reader.specs.declared.form.FormAction.{FormAction}
use Rattle.ops_reader.specs.declared.form.FormAction.TheVariants as an_action
use Rattle.ops_reader.specs.declared.form.At.{At}
use Rattle.ops_reader.specs.declared.form.At.TheVariants as a_place
use Rattle.ops_reader.specs.declared.form.FormTerm.{FormTerm}
use Rattle.ops_reader.specs.declared.form.FormTerm.TheVariants as a_term
use Rattle.ops_reader.specs.declared.form.FormItem.{FormItem}
use Rattle.ops_reader.specs.declared.form.FormItem.TheVariants as an_item
use Rattle.ops_reader.specs.FormTree.{form_tree}

-- a symbol has the number of its name
abbrev pub numbers_in_value : Value → List ℕ
numbers_in_value (a_value.Int z) = []
numbers_in_value (a_value.Sym n) = n ∷ []

-- a constant or a variable
abbrev pub numbers_in_argument : FormArg → List ℕ
numbers_in_argument (an_argument.Con v) = numbers_in_value v
numbers_in_argument (an_argument.Name n) = n ∷ []

-- an attribute, and what it is set to or tested by
abbrev pub numbers_in_setting : {A : Type 0} → (A → List ℕ) → ℕ × A → List ℕ
numbers_in_setting numbers_in set = set.0 ∷ numbers_in set.1

-- one test
abbrev pub numbers_in_simple : Simple → List ℕ
numbers_in_simple (a_test.Plain a) = numbers_in_argument a
numbers_in_simple (a_test.Cmp p a) = numbers_in_argument a
numbers_in_simple (a_test.OneOf values) = flat_map numbers_in_value values

-- an element variable, where there is one
abbrev pub numbers_in_option : Option ℕ → List ℕ
numbers_in_option None = []
numbers_in_option (Some n) = n ∷ []

-- a condition element: its class, its element variable, and its attributes with their tests
abbrev pub numbers_in_condition : FormCond → List ℕ
numbers_in_condition c = c.class ∷ numbers_in_option c.named ++ flat_map (numbers_in_setting (flat_map numbers_in_simple)) c.tests

abbrev mutual
  -- an expression
  pub numbers_in_tree : Tree → List ℕ
  numbers_in_tree (single leaf) = numbers_in_leaf leaf
  numbers_in_tree (joined leaf op rest) = numbers_in_leaf leaf ++ numbers_in_tree rest

  -- an operand
  pub numbers_in_leaf : Leaf → List ℕ
  numbers_in_leaf (number z) = []
  numbers_in_leaf (variable n) = n ∷ []
  numbers_in_leaf (parentheses inner) = numbers_in_tree inner

-- a value
abbrev pub numbers_in_term : FormTerm → List ℕ
numbers_in_term (a_term.Con v) = numbers_in_value v
numbers_in_term (a_term.Name n) = n ∷ []
numbers_in_term (a_term.Compute e) = numbers_in_tree (form_tree e)

-- the number of a condition element, or an element variable
abbrev pub numbers_in_designator : At → List ℕ
numbers_in_designator (a_place.Number z) = []
numbers_in_designator (a_place.Name n) = n ∷ []

-- what is written
abbrev pub numbers_in_item : FormItem → List ℕ
numbers_in_item (an_item.Put t) = numbers_in_term t
numbers_in_item other = []

-- an action
abbrev pub numbers_in_action : FormAction → List ℕ
numbers_in_action (an_action.Make class sets) = class ∷ flat_map (numbers_in_setting numbers_in_term) sets
numbers_in_action (an_action.Modify at sets) = numbers_in_designator at ++ flat_map (numbers_in_setting numbers_in_term) sets
numbers_in_action (an_action.Remove ats) = flat_map numbers_in_designator ats
numbers_in_action (an_action.Bind name t) = name ∷ numbers_in_term t
numbers_in_action (an_action.Write items) = flat_map numbers_in_item items
numbers_in_action an_action.Halt = []

-- a form
abbrev pub numbers_in_form : Form → List ℕ
numbers_in_form (a_form.Literalize class attrs) = class ∷ attrs
numbers_in_form (a_form.P name conds actions) = name ∷ flat_map numbers_in_condition conds ++ flat_map numbers_in_action actions
numbers_in_form (a_form.Make class sets) = class ∷ flat_map (numbers_in_setting numbers_in_value) sets
numbers_in_form (a_form.Strategy mea) = []
numbers_in_form (a_form.Watch level) = []

-- each number of a name in the forms is that of one of these names
abbrev pub AreNamed : Names → List Form → Type 0
AreNamed names forms = AllByRecursion (λ n. n < length names) (flat_map numbers_in_form forms)
