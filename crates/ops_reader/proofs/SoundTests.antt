-- What the parts of an attribute with its tests have been spelled by.
use Rattle.std.proofs.Common.{ℕ, List, [], ◌∷◌, ◌++◌, refl, IfSome, inl, inr}
use Rattle.ops_text.specs.Names.{Names}
use Rattle.rule_base.specs.declared.value.Value.{Value}
use Rattle.rule_base.specs.declared.condition.Pred.{Pred}
use Rattle.rule_base.specs.declared.condition.Pred.TheVariants as pred
use Rattle.ops_reader.specs.declared.form.FormArg.{FormArg}
use Rattle.ops_reader.specs.declared.form.Simple.{Simple}
use Rattle.ops_reader.specs.declared.form.Simple.TheVariants as a_test
use Rattle.ops_reader.specs.declared.part.Step.TheVariants.{Part, Whole}
use Rattle.ops_reader.specs.declared.part.SimplePart.{SimplePart}
use Rattle.ops_reader.specs.declared.part.SimplePart.TheVariants as of_simple
use Rattle.ops_reader.specs.declared.part.TestPart.{TestPart}
use Rattle.ops_reader.specs.declared.part.TestPart.TheVariants as of_test
use Rattle.ops_tokens.specs.Token.{Token, OpenBrace, CloseBrace, Caret, OpenList, CloseList, Predicate}
use Rattle.ops_reader.specs.Grammar.{Phrase, nothing, ◌⨾◌, any, the, symbol, constant, argument, setting, simple, test}
use Rattle.ops_reader.specs.Taken.{symbol_of, constant_of, argument_of}
use Rattle.ops_reader.specs.TestReading.{compared_by, values_after, simple_begun, simple_after, alone_after, with_simple, braced_after, test_after}
use Rattle.ops_reader.proofs.Phrases.{Extends, then_one, within, from_nothing, Extends-weaker, then_element, then_last}
use Rattle.ops_reader.proofs.SoundBasics.{IsSpelled, grown_by, made_by, around_spelled, symbol_spelled, constant_spelled, argument_spelled, open_lists, open_part, then_single}

-- the phrase that a part of a test has been spelled by
abbrev pub begun_simple : SimplePart → Phrase
begun_simple of_simple.Nothing = nothing
begun_simple (of_simple.Predicate p) = the (Predicate p)
begun_simple (of_simple.OneOf values) = the OpenList ⨾ any constant values ⨾ nothing

-- an argument behind a predicate
compared_spelled : (p : Pred) (a : FormArg) (names : Names) (token : Token) (after : Names) → argument a names (token ∷ []) after → Extends (the (Predicate p)) names token after (simple (compared_by p a))
compared_spelled pred.Eq a names token after one =
    let behind = the (Predicate pred.Eq) ⨾ argument a in
    Extends-weaker (the (Predicate pred.Eq)) behind (simple (a_test.Plain a)) names token after (then_one (the (Predicate pred.Eq)) (argument a) names token after one)
    (λ before tokens end h. inr h)
compared_spelled p a names token after one = then_one (the (Predicate p)) (argument a) names token after one

values_spelled : (names : Names) (values : List Value) (token : Token) → IfSome (values_after names values token) (IsSpelled begun_simple simple (begun_simple (of_simple.OneOf values)) names token)
values_spelled names values CloseList = then_last (the OpenList ⨾ any constant values) (the CloseList) names CloseList names (refl, refl)
values_spelled names values token =
    grown_by begun_simple simple (begun_simple (of_simple.OneOf values)) names token (λ v. of_simple.OneOf (values ++ v ∷ [])) constant (constant_of names token) (constant_spelled names token)
    (λ v after one. then_single (the OpenList) constant values v names token after one)

simple_begun_spelled : (names : Names) (token : Token) → IfSome (simple_begun names token) (IsSpelled begun_simple simple nothing names token)
simple_begun_spelled names (Predicate p) = from_nothing (the (Predicate p)) names (Predicate p) names (refl, refl)
simple_begun_spelled names OpenList = open_lists nothing (the OpenList) names OpenList names (from_nothing (the OpenList) names OpenList names (refl, refl))
simple_begun_spelled names token =
    made_by begun_simple simple nothing names token a_test.Plain argument (argument_of names token) (argument_spelled names token)
    (λ a after one. from_nothing (simple (a_test.Plain a)) names token after (inl one))

pub simple_spelled : (names : Names) (part : SimplePart) (token : Token) → IfSome (simple_after names part token) (IsSpelled begun_simple simple (begun_simple part) names token)
simple_spelled names of_simple.Nothing token = simple_begun_spelled names token
simple_spelled names (of_simple.Predicate p) token =
    made_by begun_simple simple (the (Predicate p)) names token (compared_by p) argument (argument_of names token) (argument_spelled names token)
    (λ a after one. compared_spelled p a names token after one)
simple_spelled names (of_simple.OneOf values) token = values_spelled names values token

-- `^` and an attribute
abbrev attr_of : ℕ → Phrase
attr_of attr = the Caret ⨾ symbol attr

-- the tests so far, in braces
abbrev braced_of : List Simple → Phrase
braced_of simples = the OpenBrace ⨾ any simple simples

-- the phrase that a part of an attribute with its tests has been spelled by
abbrev pub begun_test : TestPart → Phrase
begun_test of_test.Nothing = nothing
begun_test of_test.Caret = the Caret
begun_test (of_test.Alone attr part) = attr_of attr ⨾ begun_simple part
begun_test (of_test.Braced attr simples part) = attr_of attr ⨾ (braced_of simples ⨾ begun_simple part)

-- one test alone
one_alone : (part : SimplePart) (one : Simple) (names : Names) (token : Token) (after : Names)
    → Extends (begun_simple part) names token after (simple one) → Extends (begun_simple part) names token after (test (one ∷ []))
one_alone part one names token after e = Extends-weaker (begun_simple part) (simple one) (test (one ∷ [])) names token after e (λ before tokens end h. inl h)

alone_spelled : (names : Names) (attr : ℕ) (part : SimplePart) (token : Token)
    → IfSome (alone_after names attr part token) (IsSpelled begun_test (setting test) (begun_test (of_test.Alone attr part)) names token)
alone_spelled names attr of_simple.Nothing OpenBrace =
    within (attr_of attr) nothing (braced_of [] ⨾ nothing) names OpenBrace names
    (open_lists nothing (the OpenBrace) names OpenBrace names (from_nothing (the OpenBrace) names OpenBrace names (refl, refl)))
alone_spelled names attr part token =
    around_spelled begun_simple simple begun_test (setting test) (λ s. Part (of_test.Alone attr s)) (λ one. Whole (attr, one ∷ [])) (begun_simple part) (begun_test (of_test.Alone attr part)) names token (simple_after names part token)
    (λ p after e. within (attr_of attr) (begun_simple part) (begun_simple p) names token after e)
    (λ one after e. within (attr_of attr) (begun_simple part) (test (one ∷ [])) names token after (one_alone part one names token after e))
    (simple_spelled names part token)

-- the last brace
braces_closed : (simples : List Simple) (names : Names) → Extends (braced_of simples ⨾ nothing) names CloseBrace names (test simples)
braces_closed simples names =
    Extends-weaker (braced_of simples ⨾ nothing) (braced_of simples ⨾ the CloseBrace) (test simples) names CloseBrace names
    (then_last (braced_of simples) (the CloseBrace) names CloseBrace names (refl, refl))
    (λ before tokens end h. inr h)

braced_spelled : (names : Names) (attr : ℕ) (simples : List Simple) (part : SimplePart) (token : Token)
    → IfSome (braced_after names attr simples part token) (IsSpelled begun_test (setting test) (begun_test (of_test.Braced attr simples part)) names token)
braced_spelled names attr simples of_simple.Nothing CloseBrace =
    within (attr_of attr) (braced_of simples ⨾ nothing) (test simples) names CloseBrace names (braces_closed simples names)
braced_spelled names attr simples part token =
    around_spelled begun_simple simple begun_test (setting test) (λ s. Part (of_test.Braced attr simples s)) (with_simple attr simples) (begun_simple part) (begun_test (of_test.Braced attr simples part)) names token (simple_after names part token)
    (λ p after e. within (attr_of attr) (braced_of simples ⨾ begun_simple part) (braced_of simples ⨾ begun_simple p) names token after
    (within (braced_of simples) (begun_simple part) (begun_simple p) names token after e))
    (λ one after e. within (attr_of attr) (braced_of simples ⨾ begun_simple part) (braced_of (simples ++ one ∷ []) ⨾ nothing) names token after
    (then_element (the OpenBrace) simple simples one (begun_simple part) names token after e))
    (simple_spelled names part token)

pub test_spelled : (names : Names) (part : TestPart) (token : Token) → IfSome (test_after names part token) (IsSpelled begun_test (setting test) (begun_test part) names token)
test_spelled names of_test.Nothing Caret = from_nothing (the Caret) names Caret names (refl, refl)
test_spelled names of_test.Caret token =
    grown_by begun_test (setting test) (the Caret) names token (λ attr. of_test.Alone attr of_simple.Nothing) symbol (symbol_of names token) (symbol_spelled names token)
    (λ attr after one. open_part (the Caret) (attr_of attr) names token after (then_one (the Caret) (symbol attr) names token after one))
test_spelled names (of_test.Alone attr part) token = alone_spelled names attr part token
test_spelled names (of_test.Braced attr simples part) token = braced_spelled names attr simples part token
test_spelled names part token = tt
