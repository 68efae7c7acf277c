-- What one more token makes of a part of a condition element.
use Rattle.std.specs.Prelude.{ℕ, Bool, true, false, List, [], ◌∷◌, ◌++◌, Option, Some, None}
use Rattle.ops_text.specs.Names.{Names}
use Rattle.ops_reader.specs.declared.form.FormCond.{FormCond}
use Rattle.ops_reader.specs.declared.form.Simple.{Simple}
use Rattle.ops_reader.specs.declared.part.Step.{Step}
use Rattle.ops_reader.specs.declared.part.Step.TheVariants.{Part, Whole}
use Rattle.ops_reader.specs.declared.part.Pattern.{Pattern}
use Rattle.ops_reader.specs.declared.part.TestPart.{TestPart}
use Rattle.ops_reader.specs.declared.part.TestPart.TheVariants as of_test
use Rattle.ops_reader.specs.declared.part.PatternPart.{PatternPart}
use Rattle.ops_reader.specs.declared.part.PatternPart.TheVariants as of_pattern
use Rattle.ops_reader.specs.declared.part.CondPart.{CondPart}
use Rattle.ops_reader.specs.declared.part.CondPart.TheVariants as of_cond
use Rattle.ops_tokens.specs.Token.{Token, Open, Close, OpenBrace, CloseBrace, Minus, Variable}
use Rattle.ops_reader.specs.Taken.{Taken, symbol_of, variable_of, grown, around}
use Rattle.ops_reader.specs.TestReading.{test_after}

-- in a pattern, where an attribute with its tests is whole
abbrev pub with_test : ℕ → List (ℕ × List Simple) → ℕ × List Simple → Step PatternPart Pattern
with_test class tests test = Part (of_pattern.Tests class (tests ++ test ∷ []) of_test.Nothing)

-- the attributes of a pattern, and its end
abbrev pub tests_after : Names → ℕ → List (ℕ × List Simple) → TestPart → Token → Taken (Step PatternPart Pattern)
tests_after names class tests of_test.Nothing Close = Some (names, Whole (record { class = class; tests = tests }))
tests_after names class tests test token =
    around (λ t. Part (of_pattern.Tests class tests t)) (with_test class tests) (test_after names test token)

-- any part of a pattern
abbrev pub pattern_after : Names → PatternPart → Token → Taken (Step PatternPart Pattern)
pattern_after names of_pattern.Nothing Open = Some (names, Part of_pattern.Open)
pattern_after names of_pattern.Open token = grown (λ class. of_pattern.Tests class [] of_test.Nothing) (symbol_of names token)
pattern_after names (of_pattern.Tests class tests test) token = tests_after names class tests test token
pattern_after names part token = None

-- a pattern as a condition element
abbrev pub condition_of : Bool → Option ℕ → Pattern → FormCond
condition_of negated name pattern = record { negated = negated; named = name; class = pattern.class; tests = pattern.tests }

-- a condition element without a sign or braces
abbrev pub plain_after : Names → PatternPart → Token → Taken (Step CondPart FormCond)
plain_after names pattern token =
    around (λ p. Part (of_cond.Plain p)) (λ whole. Whole (condition_of false None whole)) (pattern_after names pattern token)

-- a condition element behind a minus
abbrev pub negated_after : Names → PatternPart → Token → Taken (Step CondPart FormCond)
negated_after names pattern token =
    around (λ p. Part (of_cond.Negated p)) (λ whole. Whole (condition_of true None whole)) (pattern_after names pattern token)

-- a condition element in braces, behind an element variable
abbrev pub named_after : Names → ℕ → PatternPart → Token → Taken (Step CondPart FormCond)
named_after names name pattern token =
    around (λ p. Part (of_cond.Named name p)) (λ whole. Part (of_cond.Closing (condition_of false (Some name) whole))) (pattern_after names pattern token)

-- a condition element in braces, before an element variable
abbrev pub unnamed_after : Names → PatternPart → Token → Taken (Step CondPart FormCond)
unnamed_after names pattern token =
    around (λ p. Part (of_cond.Unnamed p)) (λ whole. Part (of_cond.Behind whole)) (pattern_after names pattern token)

-- the first token of a condition element
abbrev pub cond_begun : Names → Token → Taken (Step CondPart FormCond)
cond_begun names Minus = Some (names, Part (of_cond.Negated of_pattern.Nothing))
cond_begun names OpenBrace = Some (names, Part of_cond.Brace)
cond_begun names token = plain_after names of_pattern.Nothing token

-- the first token in the braces of a condition element
abbrev pub brace_begun : Names → Token → Taken (Step CondPart FormCond)
brace_begun names (Variable name) = grown (λ n. of_cond.Named n of_pattern.Nothing) (variable_of names (Variable name))
brace_begun names token = unnamed_after names of_pattern.Nothing token

-- any part of a condition element
abbrev pub cond_after : Names → CondPart → Token → Taken (Step CondPart FormCond)
cond_after names of_cond.Nothing token = cond_begun names token
cond_after names (of_cond.Plain pattern) token = plain_after names pattern token
cond_after names (of_cond.Negated pattern) token = negated_after names pattern token
cond_after names of_cond.Brace token = brace_begun names token
cond_after names (of_cond.Named name pattern) token = named_after names name pattern token
cond_after names (of_cond.Unnamed pattern) token = unnamed_after names pattern token
cond_after names (of_cond.Behind pattern) token = grown (λ n. of_cond.Closing (condition_of false (Some n) pattern)) (variable_of names token)
cond_after names (of_cond.Closing cond) CloseBrace = Some (names, Whole cond)
cond_after names part token = None
