-- What one more token makes of a part of an attribute with its tests.
use Rattle.std.specs.Prelude.{ℕ, List, [], ◌∷◌, ◌++◌, Some, None}
use Rattle.ops_text.specs.Names.{Names}
use Rattle.rule_base.specs.declared.value.Value.{Value}
use Rattle.rule_base.specs.declared.condition.Pred.{Pred}
use Rattle.rule_base.specs.declared.condition.Pred.TheVariants as pred
use Rattle.ops_reader.specs.declared.form.FormArg.{FormArg}
use Rattle.ops_reader.specs.declared.form.Simple.{Simple}
use Rattle.ops_reader.specs.declared.form.Simple.TheVariants as a_test
use Rattle.ops_reader.specs.declared.part.Step.{Step}
use Rattle.ops_reader.specs.declared.part.Step.TheVariants.{Part, Whole}
use Rattle.ops_reader.specs.declared.part.SimplePart.{SimplePart}
use Rattle.ops_reader.specs.declared.part.SimplePart.TheVariants as of_simple
use Rattle.ops_reader.specs.declared.part.TestPart.{TestPart}
use Rattle.ops_reader.specs.declared.part.TestPart.TheVariants as of_test
use Rattle.ops_tokens.specs.Token.{Token, OpenBrace, CloseBrace, Caret, OpenList, CloseList, Predicate}
use Rattle.ops_reader.specs.Taken.{Taken, symbol_of, constant_of, argument_of, grown, made, around}

-- a test by a predicate, where `=` makes it a plain one
abbrev pub compared_by : Pred → FormArg → Simple
compared_by pred.Eq argument = a_test.Plain argument
compared_by p argument = a_test.Cmp p argument

-- the constants of a test, and its end
abbrev pub values_after : Names → List Value → Token → Taken (Step SimplePart Simple)
values_after names values CloseList = Some (names, Whole (a_test.OneOf values))
values_after names values token = grown (λ v. of_simple.OneOf (values ++ v ∷ [])) (constant_of names token)

-- the first token of a test
abbrev pub simple_begun : Names → Token → Taken (Step SimplePart Simple)
simple_begun names (Predicate p) = Some (names, Part (of_simple.Predicate p))
simple_begun names OpenList = Some (names, Part (of_simple.OneOf []))
simple_begun names token = made a_test.Plain (argument_of names token)

-- any part of one test
abbrev pub simple_after : Names → SimplePart → Token → Taken (Step SimplePart Simple)
simple_after names of_simple.Nothing token = simple_begun names token
simple_after names (of_simple.Predicate p) token = made (compared_by p) (argument_of names token)
simple_after names (of_simple.OneOf values) token = values_after names values token

-- a test without braces, or the first brace
abbrev pub alone_after : Names → ℕ → SimplePart → Token → Taken (Step TestPart (ℕ × List Simple))
alone_after names attr of_simple.Nothing OpenBrace = Some (names, Part (of_test.Braced attr [] of_simple.Nothing))
alone_after names attr simple token =
    around (λ s. Part (of_test.Alone attr s)) (λ one. Whole (attr, one ∷ [])) (simple_after names simple token)

-- in braces, where a test is whole
abbrev pub with_simple : ℕ → List Simple → Simple → Step TestPart (ℕ × List Simple)
with_simple attr simples one = Part (of_test.Braced attr (simples ++ one ∷ []) of_simple.Nothing)

-- the tests in braces, and the last brace
abbrev pub braced_after : Names → ℕ → List Simple → SimplePart → Token → Taken (Step TestPart (ℕ × List Simple))
braced_after names attr simples of_simple.Nothing CloseBrace = Some (names, Whole (attr, simples))
braced_after names attr simples simple token =
    around (λ s. Part (of_test.Braced attr simples s)) (with_simple attr simples) (simple_after names simple token)

-- any part of an attribute with its tests
abbrev pub test_after : Names → TestPart → Token → Taken (Step TestPart (ℕ × List Simple))
test_after names of_test.Nothing Caret = Some (names, Part of_test.Caret)
test_after names of_test.Caret token = grown (λ attr. of_test.Alone attr of_simple.Nothing) (symbol_of names token)
test_after names (of_test.Alone attr simple) token = alone_after names attr simple token
test_after names (of_test.Braced attr simples simple) token = braced_after names attr simples simple token
test_after names part token = None
