-- The shape of the forms of a text: what the types of forms allow, and the grammar doesn't.
use Rattle.std.specs.Prelude.{◌<◌, ◌≤◌, ◌^◌, ℕ, Bool, true, Option, Some, List, length}
use Rattle.std.specs.List.{AllByRecursion, flat_map}
use Rattle.rule_base.specs.declared.condition.Pred.TheVariants as pred
use Rattle.rule_base.specs.Expression.{depth}
use Rattle.ops_reader.specs.declared.form.Form.{Form}
use Rattle.ops_reader.specs.declared.form.Form.TheVariants.{P, Watch}
use Rattle.ops_reader.specs.declared.form.FormCond.{FormCond}
use Rattle.ops_reader.specs.declared.form.Simple.{Simple}
use Rattle.ops_reader.specs.declared.form.Simple.TheVariants as a_test
use Rattle.ops_reader.specs.declared.form.FormAction.{FormAction}
use Rattle.ops_reader.specs.declared.form.FormAction.TheVariants as an_action
use Rattle.ops_reader.specs.declared.form.FormTerm.{FormTerm}
use Rattle.ops_reader.specs.declared.form.FormTerm.TheVariants as a_term
use Rattle.ops_reader.specs.declared.form.FormItem.{FormItem}
use Rattle.ops_reader.specs.declared.form.FormItem.TheVariants as an_item
use Rattle.ops_reader.specs.FormTree.{form_tree}
use Rattle.ops_reader.specs.Named.{numbers_in_form}

-- no comparison is by `=`, which is the plain test
abbrev pub IsSimple : Simple → Type 0
IsSimple (a_test.Cmp pred.Eq a) = ⊥
IsSimple other = Unit {0}

-- the same of the tests of an attribute
abbrev pub AreSimple : ℕ × List Simple → Type 0
AreSimple test = AllByRecursion IsSimple test.1

-- a condition element is negated or named, or neither
abbrev pub IsOneOfBoth : Bool → Option ℕ → Type 0
IsOneOfBoth true (Some name) = ⊥
IsOneOfBoth negated named = Unit {0}

-- the shape of a condition element
abbrev pub IsCondition : FormCond → Type 0
IsCondition c = IsOneOfBoth c.negated c.named × AllByRecursion AreSimple c.tests

-- an expression has at most 32 parentheses in one another
abbrev pub IsShallow : FormTerm → Type 0
IsShallow (a_term.Compute e) = depth (form_tree e) ≤ 32
IsShallow other = Unit {0}

-- the same of the value of a setting
abbrev pub IsShallowSet : ℕ × FormTerm → Type 0
IsShallowSet set = IsShallow set.1

-- the same of what is written
abbrev pub IsShallowItem : FormItem → Type 0
IsShallowItem (an_item.Put t) = IsShallow t
IsShallowItem other = Unit {0}

-- an action has shallow expressions, and removes something where it removes
abbrev pub IsAction : FormAction → Type 0
IsAction (an_action.Make class sets) = AllByRecursion IsShallowSet sets
IsAction (an_action.Modify at sets) = AllByRecursion IsShallowSet sets
IsAction (an_action.Remove ats) = 0 < length ats
IsAction (an_action.Bind name t) = IsShallow t
IsAction (an_action.Write items) = AllByRecursion IsShallowItem items
IsAction an_action.Halt = Unit {0}

-- a rule has a condition element, and its condition elements and actions have their shape; a watch level is at most 3
abbrev pub HasShape : Form → Type 0
HasShape (P name conds actions) = (0 < length conds) × AllByRecursion IsCondition conds × AllByRecursion IsAction actions
HasShape (Watch level) = level ≤ 3
HasShape form = Unit {0}

-- what the forms of a text keep
pub record AreForms (forms : List Form) : Type 0 where
  pub shaped : AllByRecursion HasShape forms
  pub few : length forms < 2 ^ 32
  -- each number of a name is one of a token's
  pub few_names : length (flat_map numbers_in_form forms) < 2 ^ 32
