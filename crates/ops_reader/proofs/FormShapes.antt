-- The forms of a text have their shape.
use Rattle.std.proofs.Common.{ℕ, ◌<◌, ◌^◌, Bool, true, false, Option, Some, None, List, [], ◌∷◌, length, inl, inr, arith}
use Rattle.std.specs.List.{AllByRecursion}
use Rattle.ops_text.specs.Names.{Names}
use Rattle.rule_base.specs.declared.condition.Pred.TheVariants as pred
use Rattle.ops_reader.specs.declared.form.Form.{Form}
use Rattle.ops_reader.specs.declared.form.Form.TheVariants as a_form
use Rattle.ops_reader.specs.declared.form.FormCond.{FormCond}
use Rattle.ops_reader.specs.declared.form.Simple.{Simple}
use Rattle.ops_reader.specs.declared.form.Simple.TheVariants as a_test
use Rattle.ops_tokens.specs.Token.{Token}
use Rattle.ops_reader.specs.Grammar.{Phrase, setting, simple, test, pattern, signed, condition, action, form, IsText}
use Rattle.ops_reader.specs.Shape.{IsSimple, AreSimple, IsOneOfBoth, IsCondition, IsAction, HasShape, AreForms}
use Rattle.ops_reader.proofs.DepthLemmas.{all_of_any, action_has_shape}
use Rattle.ops_reader.proofs.NumberCounts.{a_token_each}

simple_has_shape : (one : Simple) (before : Names) (tokens : List Token) (after : Names) → simple one before tokens after → IsSimple one
simple_has_shape (a_test.Cmp pred.Eq a) before tokens after never = absurd never
simple_has_shape one before tokens after h = tt

test_has_shape : (tests : List Simple) (before : Names) (tokens : List Token) (after : Names) → test tests before tokens after → AllByRecursion IsSimple tests
test_has_shape [] before tokens after h = tt
test_has_shape (one ∷ []) before tokens after (inl h) = (simple_has_shape one before tokens after h, tt)
test_has_shape (one ∷ other ∷ more) before tokens after (inl never) = absurd never
test_has_shape tests before tokens after (inr h) = all_of_any simple IsSimple simple_has_shape tests h.of_first.between h.of_first.back h.between h.of_first.of_second

tests_have_shape : (set : ℕ × List Simple) (before : Names) (tokens : List Token) (after : Names) → setting test set before tokens after → AreSimple set
tests_have_shape set before tokens after h = test_has_shape set.1 h.between h.back after h.of_second

pattern_has_shape : (c : FormCond) (before : Names) (tokens : List Token) (after : Names) → pattern c before tokens after → AllByRecursion AreSimple c.tests
pattern_has_shape c before tokens after h = all_of_any (setting test) AreSimple tests_have_shape c.tests h.of_first.between h.of_first.back h.between h.of_first.of_second

signed_has_shape : (negated : Bool) (named : Option ℕ) (p : Phrase) (P : Type 0) → ((before : Names) (tokens : List Token) (after : Names) → p before tokens after → P)
    → (before : Names) (tokens : List Token) (after : Names) → signed negated named p before tokens after → IsOneOfBoth negated named × P
signed_has_shape false None p P keeps before tokens after h = (tt, keeps before tokens after h)
signed_has_shape true None p P keeps before tokens after h = (tt, keeps h.between h.back after h.of_second)
signed_has_shape false (Some name) p P keeps before tokens after (inl h) = (tt, keeps h.of_first.between h.of_first.back h.between h.of_first.of_second)
signed_has_shape false (Some name) p P keeps before tokens after (inr h) =
    (tt, keeps h.of_first.of_first.between h.of_first.of_first.back h.of_first.between h.of_first.of_first.of_second)
signed_has_shape true (Some name) p P keeps before tokens after never = absurd never

condition_has_shape : (c : FormCond) (before : Names) (tokens : List Token) (after : Names) → condition c before tokens after → IsCondition c
condition_has_shape c = signed_has_shape c.negated c.named (pattern c) (AllByRecursion AreSimple c.tests) (pattern_has_shape c)

-- a rule is spelled by one condition or more, and by actions
form_has_shape : (one : Form) (before : Names) (tokens : List Token) (after : Names) → form one before tokens after → HasShape one
form_has_shape (a_form.P name [] actions) before tokens after h = absurd h.of_first.of_first.of_first.of_second
form_has_shape (a_form.P name (c ∷ conds) actions) before tokens after h =
    let left = h.of_first.of_first.of_first in (
      omega arith,
      all_of_any condition IsCondition condition_has_shape (c ∷ conds) left.between left.back h.of_first.of_first.between left.of_second,
      all_of_any action IsAction action_has_shape actions h.of_first.between h.of_first.back h.between h.of_first.of_second,
    )
form_has_shape (a_form.Watch level) before tokens after h = h.of_first.of_second.0
form_has_shape one before tokens after h = tt

pub text_has_shape : (forms : List Form) (before : Names) (tokens : List Token) (after : Names) → IsText before forms tokens after → length forms < 2 ^ 32 → length tokens < 2 ^ 32 → AreForms forms
text_has_shape forms before tokens after h few short = record {
  shaped = all_of_any form HasShape form_has_shape forms before tokens after h;
  few = few;
  few_names = omega (arith, a_token_each forms before tokens after h);
}
