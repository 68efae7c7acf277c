-- Whatever has been read of a condition element can go on to its end.
use Rattle.std.proofs.Common.{ℕ, false, true, List, [], ◌∷◌, ◌++◌, Some, None, refl}
use Rattle.ops_text.specs.Names.{Names, number_of, with_name}
use Rattle.rule_base.specs.declared.value.Value.TheVariants as a_value
use Rattle.ops_reader.specs.declared.form.FormArg.{FormArg}
use Rattle.ops_reader.specs.declared.form.FormArg.TheVariants as an_argument
use Rattle.ops_reader.specs.declared.form.FormCond.{FormCond}
use Rattle.ops_reader.specs.declared.form.Simple.{Simple}
use Rattle.ops_reader.specs.declared.form.Simple.TheVariants as a_test
use Rattle.ops_reader.specs.declared.part.Step.TheVariants.{Part, Whole}
use Rattle.ops_reader.specs.declared.part.SimplePart.{SimplePart}
use Rattle.ops_reader.specs.declared.part.SimplePart.TheVariants as of_simple
use Rattle.ops_reader.specs.declared.part.TestPart.{TestPart}
use Rattle.ops_reader.specs.declared.part.TestPart.TheVariants as of_test
use Rattle.ops_reader.specs.declared.part.Pattern.{Pattern}
use Rattle.ops_reader.specs.declared.part.PatternPart.{PatternPart}
use Rattle.ops_reader.specs.declared.part.PatternPart.TheVariants as of_pattern
use Rattle.ops_reader.specs.declared.part.CondPart.{CondPart}
use Rattle.ops_reader.specs.declared.part.CondPart.TheVariants as of_cond
use Rattle.ops_tokens.specs.Token.{Token, Open, Close, CloseBrace, Caret, CloseList, Variable}
use Rattle.ops_reader.specs.TestReading.{compared_by, simple_after, with_simple, test_after}
use Rattle.ops_reader.specs.CondReading.{with_test, pattern_after, condition_of, cond_after}
use Rattle.ops_reader.specs.Reading.{Read}
use Rattle.ops_reader.proofs.CompleteBasics.{IsWithin, within_part}
use Rattle.ops_reader.proofs.CompleteTests.{alone_around, braced_around}
use Rattle.ops_reader.proofs.CompleteConditions.{tests_around, plain_around, negated_around, named_around, unnamed_around}
use Rattle.ops_reader.proofs.ViableBasics.{word, EndsBy, ends_token, token_then, ends_as, ends_around}

-- the shortest ends
abbrev rest_of_simple : SimplePart → List Token
rest_of_simple of_simple.Nothing = word ∷ []
rest_of_simple (of_simple.Predicate p) = word ∷ []
rest_of_simple (of_simple.OneOf values) = CloseList ∷ []

abbrev rest_of_test : TestPart → List Token
rest_of_test of_test.Nothing = Caret ∷ word ∷ word ∷ []
rest_of_test of_test.Caret = word ∷ word ∷ []
rest_of_test (of_test.Alone attr part) = rest_of_simple part
rest_of_test (of_test.Braced attr simples part) = rest_of_simple part ++ CloseBrace ∷ []

abbrev rest_of_pattern : PatternPart → List Token
rest_of_pattern of_pattern.Nothing = Open ∷ word ∷ Close ∷ []
rest_of_pattern of_pattern.Open = word ∷ Close ∷ []
rest_of_pattern (of_pattern.Tests class tests part) = rest_of_test part ++ Close ∷ []

abbrev pub rest_of_cond : CondPart → List Token
rest_of_cond of_cond.Nothing = Open ∷ word ∷ Close ∷ []
rest_of_cond (of_cond.Plain part) = rest_of_pattern part
rest_of_cond (of_cond.Negated part) = rest_of_pattern part
rest_of_cond of_cond.Brace = Variable [] ∷ Open ∷ word ∷ Close ∷ CloseBrace ∷ []
rest_of_cond (of_cond.Named name part) = rest_of_pattern part ++ CloseBrace ∷ []
rest_of_cond (of_cond.Unnamed part) = rest_of_pattern part ++ Variable [] ∷ CloseBrace ∷ []
rest_of_cond (of_cond.Behind whole) = Variable [] ∷ CloseBrace ∷ []
rest_of_cond (of_cond.Closing c) = CloseBrace ∷ []

-- the argument that the shortest symbol is
abbrev argument_after : Names → FormArg
argument_after names = an_argument.Con (a_value.Sym (number_of names []))

simple_ends : (from : SimplePart → Names → Read) (to : Simple → Names → Read) → IsWithin simple_after from to → (part : SimplePart) (names : Names) → EndsBy (from part names) to (rest_of_simple part)
simple_ends from to there of_simple.Nothing names =
    let one = a_test.Plain (argument_after names) in
    ends_token (from of_simple.Nothing names) to word one (with_name names []) (there names of_simple.Nothing word (with_name names [], Whole one) refl)
simple_ends from to there (of_simple.Predicate p) names =
    let one = compared_by p (argument_after names) in
    ends_token (from (of_simple.Predicate p) names) to word one (with_name names []) (there names (of_simple.Predicate p) word (with_name names [], Whole one) refl)
simple_ends from to there (of_simple.OneOf values) names =
    ends_token (from (of_simple.OneOf values) names) to CloseList (a_test.OneOf values) names (there names (of_simple.OneOf values) CloseList (names, Whole (a_test.OneOf values)) refl)

alone_ends : (from : TestPart → Names → Read) (to : ℕ × List Simple → Names → Read) → IsWithin test_after from to → (attr : ℕ) (part : SimplePart) (names : Names)
    → EndsBy (from (of_test.Alone attr part) names) to (rest_of_simple part)
alone_ends from to there attr part names =
    ends_as (λ (one : Simple). (attr, one ∷ [])) (from (of_test.Alone attr part) names) to (rest_of_simple part)
    (simple_ends (λ s. from (of_test.Alone attr s)) (λ one. to (attr, one ∷ []))
    (within_part simple_after test_after (λ s. of_test.Alone attr s) (λ one. Whole (attr, one ∷ [])) from to there (alone_around attr)) part names)

braced_ends : (from : TestPart → Names → Read) (to : ℕ × List Simple → Names → Read) → IsWithin test_after from to → (attr : ℕ) (simples : List Simple) (part : SimplePart) (names : Names)
    → EndsBy (from (of_test.Braced attr simples part) names) to (rest_of_simple part ++ CloseBrace ∷ [])
braced_ends from to there attr simples part names =
    let behind = λ (one : Simple). from (of_test.Braced attr (simples ++ one ∷ []) of_simple.Nothing) in
    ends_around (from (of_test.Braced attr simples part) names) behind to (rest_of_simple part) (CloseBrace ∷ [])
    (simple_ends (λ s. from (of_test.Braced attr simples s)) behind
    (within_part simple_after test_after (λ s. of_test.Braced attr simples s) (with_simple attr simples) from to there (braced_around attr simples)) part names)
    (λ one after. ends_token (behind one after) to CloseBrace (attr, simples ++ one ∷ []) after
    (there after (of_test.Braced attr (simples ++ one ∷ []) of_simple.Nothing) CloseBrace (after, Whole (attr, simples ++ one ∷ [])) refl))

attr_ends : (from : TestPart → Names → Read) (to : ℕ × List Simple → Names → Read) → IsWithin test_after from to → (names : Names) → EndsBy (from of_test.Caret names) to (word ∷ word ∷ [])
attr_ends from to there names =
    let attr = number_of names [] in
    let after = with_name names [] in
    token_then (from of_test.Caret names) (from (of_test.Alone attr of_simple.Nothing) after) to word (word ∷ [])
    (there names of_test.Caret word (after, Part (of_test.Alone attr of_simple.Nothing)) refl)
    (alone_ends from to there attr of_simple.Nothing after)

test_ends : (from : TestPart → Names → Read) (to : ℕ × List Simple → Names → Read) → IsWithin test_after from to → (part : TestPart) (names : Names) → EndsBy (from part names) to (rest_of_test part)
test_ends from to there of_test.Nothing names =
    token_then (from of_test.Nothing names) (from of_test.Caret names) to Caret (word ∷ word ∷ []) (there names of_test.Nothing Caret (names, Part of_test.Caret) refl) (attr_ends from to there names)
test_ends from to there of_test.Caret names = attr_ends from to there names
test_ends from to there (of_test.Alone attr part) names = alone_ends from to there attr part names
test_ends from to there (of_test.Braced attr simples part) names = braced_ends from to there attr simples part names

class_ends : (from : PatternPart → Names → Read) (to : Pattern → Names → Read) → IsWithin pattern_after from to → (names : Names) → EndsBy (from of_pattern.Open names) to (word ∷ Close ∷ [])
class_ends from to there names =
    let after = with_name names [] in
    let begun = of_pattern.Tests (number_of names []) [] of_test.Nothing in
    let whole : Pattern = record { class = number_of names []; tests = [] } in
    token_then (from of_pattern.Open names) (from begun after) to word (Close ∷ []) (there names of_pattern.Open word (after, Part begun) refl)
    (ends_token (from begun after) to Close whole after (there after begun Close (after, Whole whole) refl))

-- a pattern with one more attribute
abbrev pattern_with : ℕ → List (ℕ × List Simple) → ℕ × List Simple → Pattern
pattern_with class tests one = record { class = class; tests = tests ++ one ∷ [] }

tests_end : (from : PatternPart → Names → Read) (to : Pattern → Names → Read) → IsWithin pattern_after from to → (class : ℕ) (tests : List (ℕ × List Simple)) (part : TestPart) (names : Names)
    → EndsBy (from (of_pattern.Tests class tests part) names) to (rest_of_test part ++ Close ∷ [])
tests_end from to there class tests part names =
    let longer = λ (one : ℕ × List Simple). of_pattern.Tests class (tests ++ one ∷ []) of_test.Nothing in
    let whole = pattern_with class tests in
    ends_around (from (of_pattern.Tests class tests part) names) (λ one. from (longer one)) to (rest_of_test part) (Close ∷ [])
    (test_ends (λ t. from (of_pattern.Tests class tests t)) (λ one. from (longer one))
    (within_part test_after pattern_after (λ t. of_pattern.Tests class tests t) (with_test class tests) from to there (tests_around class tests)) part names)
    (λ one after. ends_token (from (longer one) after) to Close (whole one) after (there after (longer one) Close (after, Whole (whole one)) refl))

pattern_ends : (from : PatternPart → Names → Read) (to : Pattern → Names → Read) → IsWithin pattern_after from to → (part : PatternPart) (names : Names) → EndsBy (from part names) to (rest_of_pattern part)
pattern_ends from to there of_pattern.Nothing names =
    token_then (from of_pattern.Nothing names) (from of_pattern.Open names) to Open (word ∷ Close ∷ []) (there names of_pattern.Nothing Open (names, Part of_pattern.Open) refl) (class_ends from to there names)
pattern_ends from to there of_pattern.Open names = class_ends from to there names
pattern_ends from to there (of_pattern.Tests class tests part) names = tests_end from to there class tests part names

plain_ends : (from : CondPart → Names → Read) (to : FormCond → Names → Read) → IsWithin cond_after from to → (part : PatternPart) (names : Names) → EndsBy (from (of_cond.Plain part) names) to (rest_of_pattern part)
plain_ends from to there part names =
    ends_as (condition_of false None) (from (of_cond.Plain part) names) to (rest_of_pattern part)
    (pattern_ends (λ p. from (of_cond.Plain p)) (λ whole. to (condition_of false None whole))
    (within_part pattern_after cond_after (λ p. of_cond.Plain p) (λ whole. Whole (condition_of false None whole)) from to there plain_around) part names)

negated_ends : (from : CondPart → Names → Read) (to : FormCond → Names → Read) → IsWithin cond_after from to → (part : PatternPart) (names : Names) → EndsBy (from (of_cond.Negated part) names) to (rest_of_pattern part)
negated_ends from to there part names =
    ends_as (condition_of true None) (from (of_cond.Negated part) names) to (rest_of_pattern part)
    (pattern_ends (λ p. from (of_cond.Negated p)) (λ whole. to (condition_of true None whole))
    (within_part pattern_after cond_after (λ p. of_cond.Negated p) (λ whole. Whole (condition_of true None whole)) from to there negated_around) part names)

closing_ends : (from : CondPart → Names → Read) (to : FormCond → Names → Read) → IsWithin cond_after from to → (c : FormCond) (names : Names) → EndsBy (from (of_cond.Closing c) names) to (CloseBrace ∷ [])
closing_ends from to there c names = ends_token (from (of_cond.Closing c) names) to CloseBrace c names (there names (of_cond.Closing c) CloseBrace (names, Whole c) refl)

named_ends : (from : CondPart → Names → Read) (to : FormCond → Names → Read) → IsWithin cond_after from to → (name : ℕ) (part : PatternPart) (names : Names)
    → EndsBy (from (of_cond.Named name part) names) to (rest_of_pattern part ++ CloseBrace ∷ [])
named_ends from to there name part names =
    let behind = λ (whole : Pattern). from (of_cond.Closing (condition_of false (Some name) whole)) in
    ends_around (from (of_cond.Named name part) names) behind to (rest_of_pattern part) (CloseBrace ∷ [])
    (pattern_ends (λ p. from (of_cond.Named name p)) behind
    (within_part pattern_after cond_after (λ p. of_cond.Named name p) (λ whole. Part (of_cond.Closing (condition_of false (Some name) whole))) from to there (named_around name)) part names)
    (λ whole after. closing_ends from to there (condition_of false (Some name) whole) after)

behind_ends : (from : CondPart → Names → Read) (to : FormCond → Names → Read) → IsWithin cond_after from to → (whole : Pattern) (names : Names)
    → EndsBy (from (of_cond.Behind whole) names) to (Variable [] ∷ CloseBrace ∷ [])
behind_ends from to there whole names =
    let c = condition_of false (Some (number_of names [])) whole in
    let after = with_name names [] in
    token_then (from (of_cond.Behind whole) names) (from (of_cond.Closing c) after) to (Variable []) (CloseBrace ∷ [])
    (there names (of_cond.Behind whole) (Variable []) (after, Part (of_cond.Closing c)) refl) (closing_ends from to there c after)

unnamed_ends : (from : CondPart → Names → Read) (to : FormCond → Names → Read) → IsWithin cond_after from to → (part : PatternPart) (names : Names)
    → EndsBy (from (of_cond.Unnamed part) names) to (rest_of_pattern part ++ Variable [] ∷ CloseBrace ∷ [])
unnamed_ends from to there part names =
    let behind = λ (whole : Pattern). from (of_cond.Behind whole) in
    ends_around (from (of_cond.Unnamed part) names) behind to (rest_of_pattern part) (Variable [] ∷ CloseBrace ∷ [])
    (pattern_ends (λ p. from (of_cond.Unnamed p)) behind
    (within_part pattern_after cond_after (λ p. of_cond.Unnamed p) (λ whole. Part (of_cond.Behind whole)) from to there unnamed_around) part names)
    (λ whole after. behind_ends from to there whole after)

brace_ends : (from : CondPart → Names → Read) (to : FormCond → Names → Read) → IsWithin cond_after from to → (names : Names) → EndsBy (from of_cond.Brace names) to (rest_of_cond of_cond.Brace)
brace_ends from to there names =
    let name = number_of names [] in
    let after = with_name names [] in
    token_then (from of_cond.Brace names) (from (of_cond.Named name of_pattern.Nothing) after) to (Variable []) (Open ∷ word ∷ Close ∷ CloseBrace ∷ [])
    (there names of_cond.Brace (Variable []) (after, Part (of_cond.Named name of_pattern.Nothing)) refl)
    (named_ends from to there name of_pattern.Nothing after)

pub cond_ends : (from : CondPart → Names → Read) (to : FormCond → Names → Read) → IsWithin cond_after from to → (part : CondPart) (names : Names) → EndsBy (from part names) to (rest_of_cond part)
cond_ends from to there of_cond.Nothing names =
    token_then (from of_cond.Nothing names) (from (of_cond.Plain of_pattern.Open) names) to Open (word ∷ Close ∷ [])
    (there names of_cond.Nothing Open (names, Part (of_cond.Plain of_pattern.Open)) refl) (plain_ends from to there of_pattern.Open names)
cond_ends from to there (of_cond.Plain part) names = plain_ends from to there part names
cond_ends from to there (of_cond.Negated part) names = negated_ends from to there part names
cond_ends from to there of_cond.Brace names = brace_ends from to there names
cond_ends from to there (of_cond.Named name part) names = named_ends from to there name part names
cond_ends from to there (of_cond.Unnamed part) names = unnamed_ends from to there part names
cond_ends from to there (of_cond.Behind whole) names = behind_ends from to there whole names
cond_ends from to there (of_cond.Closing c) names = closing_ends from to there c names
