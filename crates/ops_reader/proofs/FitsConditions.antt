-- What the slots of the parts of a condition element say of the tokens that may come next.
use Rattle.std.proofs.Common.{◌≡◌, inl, inr, ℕ, List, [], ◌∷◌, None, Some, true, false, refl}
use Rattle.ops_text.specs.Names.{Names}
use Rattle.ops_reader.specs.declared.form.Simple.{Simple}
use Rattle.ops_reader.specs.declared.part.Step.TheVariants.{Part, Whole}
use Rattle.ops_reader.specs.declared.part.SimplePart.{SimplePart}
use Rattle.ops_reader.specs.declared.part.SimplePart.TheVariants as of_simple
use Rattle.ops_reader.specs.declared.part.TestPart.{TestPart}
use Rattle.ops_reader.specs.declared.part.TestPart.TheVariants as of_test
use Rattle.ops_reader.specs.declared.part.PatternPart.{PatternPart}
use Rattle.ops_reader.specs.declared.part.PatternPart.TheVariants as of_pattern
use Rattle.ops_reader.specs.declared.part.CondPart.{CondPart}
use Rattle.ops_reader.specs.declared.part.CondPart.TheVariants as of_cond
use Rattle.ops_reader.specs.declared.slot.Slot.{Slot}
use Rattle.ops_reader.specs.declared.slot.Slot.TheVariants as slot
use Rattle.ops_tokens.specs.Token.{Token, Close, OpenBrace, CloseBrace}
use Rattle.ops_reader.specs.Taken.{around}
use Rattle.ops_reader.specs.TestReading.{simple_after, with_simple, test_after}
use Rattle.ops_reader.specs.CondReading.{with_test, pattern_after, condition_of, cond_after}
use Rattle.ops_reader.specs.Slot.{test_slot, pattern_slot, condition_slot}
use Rattle.ops_reader.proofs.Fits.{Fits, Around, IsSpokenOf, lifted}

-- a constant may stand in each part of one test
abbrev simple_slot : SimplePart → Slot
simple_slot part = slot.Constant

simple_fits : (names : Names) (part : SimplePart) → Fits simple_slot simple_after names part
simple_fits names of_simple.Nothing =
    record { says = (refl, refl); alike = inr (λ z. refl); operand = λ e. absurd (cc); no_operand = inr (inl refl); opened = tt; bound = tt }
simple_fits names (of_simple.Predicate p) =
    record { says = (refl, refl); alike = inr (λ z. refl); operand = λ e. absurd (cc); no_operand = inr (inl refl); opened = tt; bound = tt }
simple_fits names (of_simple.OneOf values) =
    record { says = (refl, refl); alike = inr (λ z. refl); operand = λ e. absurd (cc); no_operand = inr (inl refl); opened = tt; bound = tt }

-- one test within the tests of an attribute
abbrev alone_around : (attr : ℕ) → Around simple_slot simple_after test_slot test_after
alone_around attr =
    record { context = of_test.Alone attr; whole = λ one. Whole (attr, one ∷ []); slots = λ part. refl; same = alone_same }
  where
    alone_same : (names : Names) (part : SimplePart) (token : Token) → IsSpokenOf token
        → test_after names (of_test.Alone attr part) token ≡ around (λ p. Part (of_test.Alone attr p)) (λ one. Whole (attr, one ∷ [])) (simple_after names part token)
    alone_same names of_simple.Nothing OpenBrace h = absurd h
    alone_same names part token h = refl

abbrev braced_around : (attr : ℕ) (simples : List Simple) → Around simple_slot simple_after test_slot test_after
braced_around attr simples = record { context = of_test.Braced attr simples; whole = with_simple attr simples; slots = λ part. refl; same = braced_same }
  where
    braced_same : (names : Names) (part : SimplePart) (token : Token) → IsSpokenOf token
        → test_after names (of_test.Braced attr simples part) token ≡ around (λ p. Part (of_test.Braced attr simples p)) (with_simple attr simples) (simple_after names part token)
    braced_same names of_simple.Nothing CloseBrace h = absurd h
    braced_same names part token h = refl

test_fits : (names : Names) (part : TestPart) → Fits test_slot test_after names part
test_fits names of_test.Nothing =
    record { says = refl; alike = inr (λ z. refl); operand = λ e. absurd (cc); no_operand = inr (inr tt); opened = tt; bound = tt }
test_fits names of_test.Caret =
    record { says = refl; alike = inr (λ z. refl); operand = λ e. absurd (cc); no_operand = inr (inl refl); opened = tt; bound = tt }
test_fits names (of_test.Alone attr part) = lifted simple_slot simple_after test_slot test_after (alone_around attr) names part (simple_fits names part)
test_fits names (of_test.Braced attr simples part) = lifted simple_slot simple_after test_slot test_after (braced_around attr simples) names part (simple_fits names part)

-- the tests of an attribute within a pattern
abbrev tests_around : (class : ℕ) (tests : List (ℕ × List Simple)) → Around test_slot test_after pattern_slot pattern_after
tests_around class tests = record { context = of_pattern.Tests class tests; whole = with_test class tests; slots = λ part. refl; same = tests_same }
  where
    tests_same : (names : Names) (part : TestPart) (token : Token) → IsSpokenOf token
        → pattern_after names (of_pattern.Tests class tests part) token ≡ around (λ p. Part (of_pattern.Tests class tests p)) (with_test class tests) (test_after names part token)
    tests_same names of_test.Nothing Close h = absurd h
    tests_same names part token h = refl

pattern_fits : (names : Names) (part : PatternPart) → Fits pattern_slot pattern_after names part
pattern_fits names of_pattern.Nothing = record {
  says = refl;
  alike = inr (λ z. refl);
  operand = λ e. absurd (cc);
  no_operand = inr (inr tt);
  opened = inr (inl refl);
  bound = λ word name. tt;
}
pattern_fits names of_pattern.Open =
    record { says = refl; alike = inr (λ z. refl); operand = λ e. absurd (cc); no_operand = inr (inl refl); opened = tt; bound = tt }
pattern_fits names (of_pattern.Tests class tests part) =
    lifted test_slot test_after pattern_slot pattern_after (tests_around class tests) names part (test_fits names part)

-- a pattern within a condition element
abbrev plain_around : Around pattern_slot pattern_after condition_slot cond_after
plain_around =
    record { context = of_cond.Plain; whole = λ p. Whole (condition_of false None p); slots = λ part. refl; same = λ names part token h. refl }

abbrev negated_around : Around pattern_slot pattern_after condition_slot cond_after
negated_around =
    record { context = of_cond.Negated; whole = λ p. Whole (condition_of true None p); slots = λ part. refl; same = λ names part token h. refl }

abbrev named_around : (name : ℕ) → Around pattern_slot pattern_after condition_slot cond_after
named_around name = record {
  context = of_cond.Named name;
  whole = λ p. Part (of_cond.Closing (condition_of false (Some name) p));
  slots = λ part. refl;
  same = λ names part token h. refl;
}

abbrev unnamed_around : Around pattern_slot pattern_after condition_slot cond_after
unnamed_around = record { context = of_cond.Unnamed; whole = λ p. Part (of_cond.Behind p); slots = λ part. refl; same = λ names part token h. refl }

pub condition_fits : (names : Names) (part : CondPart) → Fits condition_slot cond_after names part
condition_fits names of_cond.Nothing = record {
  says = refl;
  alike = inr (λ z. refl);
  operand = λ e. absurd (cc);
  no_operand = inr (inr tt);
  opened = inr (inl refl);
  bound = λ word name. tt;
}
condition_fits names (of_cond.Plain part) = lifted pattern_slot pattern_after condition_slot cond_after plain_around names part (pattern_fits names part)
condition_fits names (of_cond.Negated part) = lifted pattern_slot pattern_after condition_slot cond_after negated_around names part (pattern_fits names part)
condition_fits names of_cond.Brace = record {
  says = refl;
  alike = inr (λ z. refl);
  operand = λ e. absurd (cc);
  no_operand = inr (inr tt);
  opened = inr (inl refl);
  bound = λ word name. tt;
}
condition_fits names (of_cond.Named name part) = lifted pattern_slot pattern_after condition_slot cond_after (named_around name) names part (pattern_fits names part)
condition_fits names (of_cond.Unnamed part) = lifted pattern_slot pattern_after condition_slot cond_after unnamed_around names part (pattern_fits names part)
condition_fits names (of_cond.Behind pattern) =
    record { says = refl; alike = inr (λ z. refl); operand = λ e. absurd (cc); no_operand = inr (inr tt); opened = tt; bound = tt }
condition_fits names (of_cond.Closing cond) =
    record { says = refl; alike = inr (λ z. refl); operand = λ e. absurd (cc); no_operand = inr (inr tt); opened = tt; bound = tt }
