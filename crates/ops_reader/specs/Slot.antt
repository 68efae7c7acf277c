-- What may stand behind what has been read, as far as the kind of a refusal asks.
use Rattle.ops_reader.specs.declared.slot.Slot.{Slot}
use Rattle.ops_reader.specs.declared.slot.Slot.TheVariants.{Head, Constant, BindValue, Operand, Number, Other}
use Rattle.ops_reader.specs.declared.part.SetPart.TheVariants as of_set
use Rattle.ops_reader.specs.declared.part.Inner.{Inner}
use Rattle.ops_reader.specs.declared.part.Inner.TheVariants as of_inner
use Rattle.ops_reader.specs.declared.part.ExprPart.{ExprPart}
use Rattle.ops_reader.specs.declared.part.TermPart.{TermPart}
use Rattle.ops_reader.specs.declared.part.TermPart.TheVariants as of_term
use Rattle.ops_reader.specs.declared.part.TermSetPart.{TermSetPart}
use Rattle.ops_reader.specs.declared.part.TermSetPart.TheVariants as of_term_set
use Rattle.ops_reader.specs.declared.part.ItemPart.{ItemPart}
use Rattle.ops_reader.specs.declared.part.ItemPart.TheVariants as of_item
use Rattle.ops_reader.specs.declared.part.ActionPart.{ActionPart}
use Rattle.ops_reader.specs.declared.part.ActionPart.TheVariants as of_action
use Rattle.ops_reader.specs.declared.part.TestPart.{TestPart}
use Rattle.ops_reader.specs.declared.part.TestPart.TheVariants as of_test
use Rattle.ops_reader.specs.declared.part.PatternPart.{PatternPart}
use Rattle.ops_reader.specs.declared.part.PatternPart.TheVariants as of_pattern
use Rattle.ops_reader.specs.declared.part.CondPart.{CondPart}
use Rattle.ops_reader.specs.declared.part.CondPart.TheVariants as of_cond
use Rattle.ops_reader.specs.declared.part.FormPart.{FormPart}
use Rattle.ops_reader.specs.declared.part.FormPart.TheVariants as of_form

-- in an expression: an operand, unless one has just been read
abbrev pub inner_slot : Inner → Slot
inner_slot (of_inner.Before before) = Operand
inner_slot (of_inner.Behind expression) = Other

-- the same with what is open around it
abbrev pub expression_slot : ExprPart → Slot
expression_slot part = inner_slot part.inner

-- in a value, which may be a constant
abbrev pub term_slot : TermPart → Slot
term_slot of_term.Nothing = Constant
term_slot of_term.Head = Head
term_slot (of_term.Compute part) = expression_slot part

-- in the value of a `bind`
abbrev pub value_slot : TermPart → Slot
value_slot of_term.Nothing = BindValue
value_slot part = term_slot part

-- in an item of a `write`
abbrev pub item_slot : ItemPart → Slot
item_slot of_item.Nothing = Constant
item_slot of_item.Head = Head
item_slot (of_item.Compute part) = expression_slot part
item_slot of_item.Tabto = Number
item_slot of_item.Rjust = Number
item_slot (of_item.Closing item) = Other

-- in a setting of an action, behind the attribute
abbrev pub set_slot : TermSetPart → Slot
set_slot (of_term_set.Attr attr part) = term_slot part
set_slot part = Other

-- in an action
abbrev pub action_slot : ActionPart → Slot
action_slot of_action.Head = Head
action_slot (of_action.MakeSets class sets set) = set_slot set
action_slot (of_action.ModifySets at sets set) = set_slot set
action_slot (of_action.Bound name part) = value_slot part
action_slot (of_action.Write items part) = item_slot part
action_slot part = Other

-- in a test, where each part may go on with a constant
abbrev pub test_slot : TestPart → Slot
test_slot of_test.Nothing = Other
test_slot of_test.Caret = Other
test_slot part = Constant

-- in a pattern
abbrev pub pattern_slot : PatternPart → Slot
pattern_slot (of_pattern.Tests class tests part) = test_slot part
pattern_slot part = Other

-- in a condition element
abbrev pub condition_slot : CondPart → Slot
condition_slot (of_cond.Plain part) = pattern_slot part
condition_slot (of_cond.Negated part) = pattern_slot part
condition_slot (of_cond.Named name part) = pattern_slot part
condition_slot (of_cond.Unnamed part) = pattern_slot part
condition_slot part = Other

-- in a form
abbrev pub form_slot : FormPart → Slot
form_slot of_form.Head = Head
form_slot (of_form.Sets class sets (of_set.Attr attr)) = Constant
form_slot (of_form.Conds name conds part) = condition_slot part
form_slot (of_form.Actions name conds actions part) = action_slot part
form_slot of_form.Watch = Number
form_slot part = Other
