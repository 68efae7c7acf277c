-- The grammar of condition elements.
use Rattle.std.specs.Prelude.{ℕ, List, [], ◌∷◌, Bool, true, false, Option, Some, None}
use Rattle.rule_base.specs.declared.condition.Pred.{Pred}
use Rattle.rule_base.specs.declared.condition.Pred.TheVariants as pred
use Rattle.ops_reader.specs.declared.form.FormCond.{FormCond}
use Rattle.ops_reader.specs.declared.form.Simple.{Simple}
use Rattle.ops_reader.specs.declared.form.Simple.TheVariants as a_test
use Rattle.ops_tokens.specs.Token.{Open, Close, OpenBrace, CloseBrace, Minus, OpenList, CloseList, Predicate}
use Rattle.ops_reader.specs.Phrase.{Phrase, never, ◌⨾◌, either, any, the}
use Rattle.ops_reader.specs.Values.{symbol, variable, constant, argument, setting}

-- a predicate before what it compares with. `=` is never kept: it is the plain test
abbrev pub compared : Pred → Phrase → Phrase
compared pred.Eq phrase = never
compared p phrase = the (Predicate p) ⨾ phrase

-- one test: a constant or a variable, perhaps behind `=`; one behind another predicate; or one of some constants
abbrev pub simple : Simple → Phrase
simple (a_test.Plain a) = either (argument a) (the (Predicate pred.Eq) ⨾ argument a)
simple (a_test.Cmp p a) = compared p (argument a)
simple (a_test.OneOf values) = the OpenList ⨾ any constant values ⨾ the CloseList

-- one test without braces
abbrev pub alone : List Simple → Phrase
alone (one ∷ []) = simple one
alone other = never

-- the tests of an attribute: one alone, or any in braces
abbrev pub test : List Simple → Phrase
test tests = either (alone tests) (the OpenBrace ⨾ any simple tests ⨾ the CloseBrace)

-- a class, and attributes with their tests
abbrev pub pattern : FormCond → Phrase
pattern c = the Open ⨾ symbol c.class ⨾ any (setting test) c.tests ⨾ the Close

-- a pattern alone, behind a minus, or in braces with an element variable before or behind it
abbrev pub signed : Bool → Option ℕ → Phrase → Phrase
signed false None phrase = phrase
signed true None phrase = the Minus ⨾ phrase
signed false (Some name) phrase =
    either (the OpenBrace ⨾ variable name ⨾ phrase ⨾ the CloseBrace) (the OpenBrace ⨾ phrase ⨾ variable name ⨾ the CloseBrace)
signed true (Some name) phrase = never

-- a condition element
abbrev pub condition : FormCond → Phrase
condition c = signed c.negated c.named (pattern c)
