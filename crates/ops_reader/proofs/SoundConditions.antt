-- What the parts of patterns and condition elements have been spelled by.
use Rattle.std.proofs.Common.{ℕ, Bool, true, false, List, [], ◌∷◌, Option, Some, None, refl, IfSome, inl, inr}
use Rattle.ops_text.specs.Names.{Names}
use Rattle.ops_reader.specs.declared.form.Simple.{Simple}
use Rattle.ops_reader.specs.declared.part.Step.TheVariants.{Part, Whole}
use Rattle.ops_reader.specs.declared.part.Pattern.{Pattern}
use Rattle.ops_reader.specs.declared.part.TestPart.{TestPart}
use Rattle.ops_reader.specs.declared.part.TestPart.TheVariants as of_test
use Rattle.ops_reader.specs.declared.part.PatternPart.{PatternPart}
use Rattle.ops_reader.specs.declared.part.PatternPart.TheVariants as of_pattern
use Rattle.ops_reader.specs.declared.part.CondPart.{CondPart}
use Rattle.ops_reader.specs.declared.part.CondPart.TheVariants as of_cond
use Rattle.ops_tokens.specs.Token.{Token, Open, Close, OpenBrace, CloseBrace, Minus, Variable}
use Rattle.ops_reader.specs.Grammar.{Phrase, nothing, never, ◌⨾◌, either, any, the, symbol, variable, setting, test, pattern, signed, condition}
use Rattle.ops_reader.specs.Taken.{variable_of}
use Rattle.ops_reader.specs.TestReading.{test_after}
use Rattle.ops_reader.specs.CondReading.{with_test, tests_after, pattern_after, condition_of, plain_after, negated_after, named_after, unnamed_after, cond_begun, brace_begun, cond_after}
use Rattle.ops_reader.proofs.Phrases.{Extends, then_one, within, from_nothing, with_nothing, Extends-weaker, then_element, then_last}
use Rattle.ops_reader.proofs.SoundBasics.{IsSpelled, grown_by, around_spelled, spelled_from, variable_spelled, open_part, then_symbol}
use Rattle.ops_reader.proofs.SoundTests.{begun_test, test_spelled}

-- a class and the attributes so far
abbrev tests_of : ℕ → List (ℕ × List Simple) → Phrase
tests_of class tests = the Open ⨾ symbol class ⨾ any (setting test) tests

-- a whole pattern
abbrev pub pattern_of : Pattern → Phrase
pattern_of p = tests_of p.class p.tests ⨾ the Close

-- the phrase that a part of a pattern has been spelled by
abbrev pub begun_pattern : PatternPart → Phrase
begun_pattern of_pattern.Nothing = nothing
begun_pattern of_pattern.Open = the Open
begun_pattern (of_pattern.Tests class tests part) = tests_of class tests ⨾ begun_test part

tests_spelled : (names : Names) (class : ℕ) (tests : List (ℕ × List Simple)) (part : TestPart) (token : Token)
    → IfSome (tests_after names class tests part token) (IsSpelled begun_pattern pattern_of (begun_pattern (of_pattern.Tests class tests part)) names token)
tests_spelled names class tests of_test.Nothing Close = then_last (tests_of class tests) (the Close) names Close names (refl, refl)
tests_spelled names class tests part token =
    around_spelled begun_test (setting test) begun_pattern pattern_of (λ t. Part (of_pattern.Tests class tests t)) (with_test class tests) (begun_test part) (begun_pattern (of_pattern.Tests class tests part)) names token (test_after names part token)
    (λ p after e. within (tests_of class tests) (begun_test part) (begun_test p) names token after e)
    (λ one after e. then_element (the Open ⨾ symbol class) (setting test) tests one (begun_test part) names token after e)
    (test_spelled names part token)

pub pattern_spelled : (names : Names) (part : PatternPart) (token : Token) → IfSome (pattern_after names part token) (IsSpelled begun_pattern pattern_of (begun_pattern part) names token)
pattern_spelled names of_pattern.Nothing Open = from_nothing (the Open) names Open names (refl, refl)
pattern_spelled names of_pattern.Open token =
    then_symbol begun_pattern pattern_of (the Open) names token (λ class. of_pattern.Tests class [] of_test.Nothing) (λ n before tokens after h. h)
pattern_spelled names (of_pattern.Tests class tests part) token = tests_spelled names class tests part token
pattern_spelled names part token = tt

-- a condition element in braces, but for the last brace
abbrev unclosed : Bool → Option ℕ → Phrase → Phrase
unclosed false (Some name) phrase = either (the OpenBrace ⨾ variable name ⨾ phrase) (the OpenBrace ⨾ phrase ⨾ variable name)
unclosed negated name phrase = never

-- the phrase that a part of a condition element has been spelled by
abbrev pub begun_cond : CondPart → Phrase
begun_cond of_cond.Nothing = nothing
begun_cond (of_cond.Plain p) = begun_pattern p
begun_cond (of_cond.Negated p) = the Minus ⨾ begun_pattern p
begun_cond of_cond.Brace = the OpenBrace
begun_cond (of_cond.Named name p) = the OpenBrace ⨾ variable name ⨾ begun_pattern p
begun_cond (of_cond.Unnamed p) = the OpenBrace ⨾ begun_pattern p
begun_cond (of_cond.Behind whole) = the OpenBrace ⨾ pattern_of whole
begun_cond (of_cond.Closing c) = unclosed c.negated c.named (pattern c)

plain_spelled : (names : Names) (part : PatternPart) (token : Token) → IfSome (plain_after names part token) (IsSpelled begun_cond condition (begun_pattern part) names token)
plain_spelled names part token =
    around_spelled begun_pattern pattern_of begun_cond condition (λ p. Part (of_cond.Plain p)) (λ whole. Whole (condition_of false None whole)) (begun_pattern part) (begun_pattern part) names token (pattern_after names part token)
    (λ p after e. e) (λ whole after e. e) (pattern_spelled names part token)

negated_spelled : (names : Names) (part : PatternPart) (token : Token) → IfSome (negated_after names part token) (IsSpelled begun_cond condition (the Minus ⨾ begun_pattern part) names token)
negated_spelled names part token =
    around_spelled begun_pattern pattern_of begun_cond condition (λ p. Part (of_cond.Negated p)) (λ whole. Whole (condition_of true None whole)) (begun_pattern part) (the Minus ⨾ begun_pattern part) names token (pattern_after names part token)
    (λ p after e. within (the Minus) (begun_pattern part) (begun_pattern p) names token after e)
    (λ whole after e. within (the Minus) (begun_pattern part) (pattern_of whole) names token after e)
    (pattern_spelled names part token)

-- a pattern behind its element variable
named_closing : (name : ℕ) (part : PatternPart) (whole : Pattern) (names : Names) (token : Token) (after : Names)
    → Extends (begun_pattern part) names token after (pattern_of whole)
    → Extends (the OpenBrace ⨾ variable name ⨾ begun_pattern part) names token after (begun_cond (of_cond.Closing (condition_of false (Some name) whole)))
named_closing name part whole names token after e =
    let x = the OpenBrace ⨾ variable name in
    Extends-weaker (x ⨾ begun_pattern part) (x ⨾ pattern_of whole) (begun_cond (of_cond.Closing (condition_of false (Some name) whole))) names token after
    (within x (begun_pattern part) (pattern_of whole) names token after e) (λ before tokens end h. inl h)

named_spelled : (names : Names) (name : ℕ) (part : PatternPart) (token : Token)
    → IfSome (named_after names name part token) (IsSpelled begun_cond condition (the OpenBrace ⨾ variable name ⨾ begun_pattern part) names token)
named_spelled names name part token =
    around_spelled begun_pattern pattern_of begun_cond condition (λ p. Part (of_cond.Named name p)) (λ whole. Part (of_cond.Closing (condition_of false (Some name) whole))) (begun_pattern part) (the OpenBrace ⨾ variable name ⨾ begun_pattern part) names token (pattern_after names part token)
    (λ p after e. within (the OpenBrace ⨾ variable name) (begun_pattern part) (begun_pattern p) names token after e)
    (λ whole after e. named_closing name part whole names token after e)
    (pattern_spelled names part token)

unnamed_spelled : (names : Names) (part : PatternPart) (token : Token) → IfSome (unnamed_after names part token) (IsSpelled begun_cond condition (the OpenBrace ⨾ begun_pattern part) names token)
unnamed_spelled names part token =
    around_spelled begun_pattern pattern_of begun_cond condition (λ p. Part (of_cond.Unnamed p)) (λ whole. Part (of_cond.Behind whole)) (begun_pattern part) (the OpenBrace ⨾ begun_pattern part) names token (pattern_after names part token)
    (λ p after e. within (the OpenBrace) (begun_pattern part) (begun_pattern p) names token after e)
    (λ whole after e. within (the OpenBrace) (begun_pattern part) (pattern_of whole) names token after e)
    (pattern_spelled names part token)

-- an element variable behind its pattern
behind_spelled : (whole : Pattern) (names : Names) (token : Token) (n : ℕ) (after : Names) → variable n names (token ∷ []) after
    → Extends (the OpenBrace ⨾ pattern_of whole) names token after (begun_cond (of_cond.Closing (condition_of false (Some n) whole)))
behind_spelled whole names token n after one =
    let x = the OpenBrace ⨾ pattern_of whole in
    Extends-weaker x (x ⨾ variable n) (begun_cond (of_cond.Closing (condition_of false (Some n) whole))) names token after
    (then_one x (variable n) names token after one) (λ before tokens end h. inr h)

closing_spelled : (negated : Bool) (name : Option ℕ) (phrase : Phrase) (names : Names) → Extends (unclosed negated name phrase) names CloseBrace names (signed negated name phrase)
closing_spelled false (Some name) phrase names before tokens (inl h) = inl (then_one (the OpenBrace ⨾ variable name ⨾ phrase) (the CloseBrace) names CloseBrace names (refl, refl) before tokens h)
closing_spelled false (Some name) phrase names before tokens (inr h) = inr (then_one (the OpenBrace ⨾ phrase ⨾ variable name) (the CloseBrace) names CloseBrace names (refl, refl) before tokens h)
closing_spelled negated name phrase names before tokens h = absurd h

cond_begun_spelled : (names : Names) (token : Token) → IfSome (cond_begun names token) (IsSpelled begun_cond condition nothing names token)
cond_begun_spelled names Minus = open_part nothing (the Minus) names Minus names (from_nothing (the Minus) names Minus names (refl, refl))
cond_begun_spelled names OpenBrace = from_nothing (the OpenBrace) names OpenBrace names (refl, refl)
cond_begun_spelled names token = plain_spelled names of_pattern.Nothing token

brace_begun_spelled : (names : Names) (token : Token) → IfSome (brace_begun names token) (IsSpelled begun_cond condition (the OpenBrace) names token)
brace_begun_spelled names (Variable name) =
    grown_by begun_cond condition (the OpenBrace) names (Variable name) (λ n. of_cond.Named n of_pattern.Nothing) variable (variable_of names (Variable name)) (variable_spelled names (Variable name))
    (λ n after one. open_part (the OpenBrace) (the OpenBrace ⨾ variable n) names (Variable name) after (then_one (the OpenBrace) (variable n) names (Variable name) after one))
brace_begun_spelled names token =
    spelled_from begun_cond condition (the OpenBrace ⨾ nothing) (the OpenBrace) names token (unnamed_after names of_pattern.Nothing token)
    (with_nothing (the OpenBrace)) (unnamed_spelled names of_pattern.Nothing token)

pub cond_spelled : (names : Names) (part : CondPart) (token : Token) → IfSome (cond_after names part token) (IsSpelled begun_cond condition (begun_cond part) names token)
cond_spelled names of_cond.Nothing token = cond_begun_spelled names token
cond_spelled names (of_cond.Plain part) token = plain_spelled names part token
cond_spelled names (of_cond.Negated part) token = negated_spelled names part token
cond_spelled names of_cond.Brace token = brace_begun_spelled names token
cond_spelled names (of_cond.Named name part) token = named_spelled names name part token
cond_spelled names (of_cond.Unnamed part) token = unnamed_spelled names part token
cond_spelled names (of_cond.Behind whole) token =
    grown_by begun_cond condition (the OpenBrace ⨾ pattern_of whole) names token (λ n. of_cond.Closing (condition_of false (Some n) whole)) variable (variable_of names token) (variable_spelled names token)
    (λ n after one. behind_spelled whole names token n after one)
cond_spelled names (of_cond.Closing c) CloseBrace = closing_spelled c.negated c.named (pattern c) names
cond_spelled names part token = tt
