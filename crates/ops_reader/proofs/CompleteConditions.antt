-- Condition elements are read to their end.
use Rattle.std.proofs.Common.{◌≡◌, ℕ, Bool, true, false, List, [], ◌∷◌, ◌++◌, Option, Some, None, refl, ap}
use Rattle.ops_text.specs.Names.{Names}
use Rattle.ops_reader.specs.declared.form.FormCond.{FormCond}
use Rattle.ops_reader.specs.declared.form.Simple.{Simple}
use Rattle.ops_reader.specs.declared.part.Step.TheVariants.{Part, Whole}
use Rattle.ops_reader.specs.declared.part.Pattern.{Pattern}
use Rattle.ops_reader.specs.declared.part.TestPart.TheVariants as of_test
use Rattle.ops_reader.specs.declared.part.PatternPart.{PatternPart}
use Rattle.ops_reader.specs.declared.part.PatternPart.TheVariants as of_pattern
use Rattle.ops_reader.specs.declared.part.CondPart.{CondPart}
use Rattle.ops_reader.specs.declared.part.CondPart.TheVariants as of_cond
use Rattle.ops_tokens.specs.Token.{Token, Open, Close, OpenBrace, CloseBrace, Minus, Variable}
use Rattle.ops_reader.specs.Grammar.{◌⨾◌, any, the, symbol, variable, setting, test, signed, condition}
use Rattle.ops_reader.specs.Taken.{symbol_of, variable_of, grown, around}
use Rattle.ops_reader.specs.TestReading.{test_after}
use Rattle.ops_reader.specs.CondReading.{with_test, pattern_after, condition_of, brace_begun, cond_after}
use Rattle.ops_reader.specs.Reading.{Read, next}
use Rattle.ops_reader.proofs.SoundConditions.{pattern_of}
use Rattle.ops_reader.proofs.CompleteBasics.{Leads, leads_then, leads_either, leads_never, leads_any, leads_the, leads_taken, symbol_taken, variable_taken, IsWithin, IsAround, within_part}
use Rattle.ops_reader.proofs.CompleteTests.{leads_test}

-- an attribute with its tests stands in a part of a pattern
pub tests_around : (class : ℕ) (tests : List (ℕ × List Simple)) → IsAround test_after pattern_after (λ t. of_pattern.Tests class tests t) (with_test class tests)
tests_around class tests names of_test.Nothing Close x e = absurd (cc)
tests_around class tests names part token x e = ap (around (λ t. Part (of_pattern.Tests class tests t)) (with_test class tests)) e

-- a pattern, wherever its bracket may stand
leads_pattern : (begin : Names → Read) (from : PatternPart → Names → Read) (to : Pattern → Names → Read)
    → ((names : Names) → next (begin names) Open ≡ Some (from of_pattern.Open names)) → IsWithin pattern_after from to
    → (whole : Pattern) → Leads (pattern_of whole) begin (to whole)
leads_pattern begin from to first there whole =
    let class = whole.class in
    let tests = whole.tests in
    let within = λ (l : List (ℕ × List Simple)). from (of_pattern.Tests class l of_test.Nothing) in
    leads_then (the Open ⨾ symbol class ⨾ any (setting test) tests) (the Close) begin (within tests) (to whole)
    (leads_then (the Open ⨾ symbol class) (any (setting test) tests) begin (within []) (within tests)
    (leads_then (the Open) (symbol class) begin (from of_pattern.Open) (within [])
    (leads_the Open begin (from of_pattern.Open) first)
    (leads_taken symbol_of symbol symbol_taken class (from of_pattern.Open) (within [])
    (λ names token after e. there names of_pattern.Open token (after, Part (of_pattern.Tests class [] of_test.Nothing))
    (ap (grown {V = Pattern} (λ n. of_pattern.Tests n [] of_test.Nothing)) e))))
    (leads_any (setting test) within
    (λ l set. leads_test (λ t. from (of_pattern.Tests class l t)) (λ one. within (l ++ one ∷ []))
    (within_part test_after pattern_after (λ t. of_pattern.Tests class l t) (with_test class l) from to there (tests_around class l)) set.0 set.1)
    [] tests))
    (leads_the Close (within tests) (to whole) (λ names. there names (of_pattern.Tests class tests of_test.Nothing) Close (names, Whole whole) refl))

-- patterns stand in the parts of condition elements
pub plain_around : IsAround pattern_after cond_after (λ p. of_cond.Plain p) (λ whole. Whole (condition_of false None whole))
plain_around names part token x e = ap (around (λ p. Part (of_cond.Plain p)) (λ whole. Whole (condition_of false None whole))) e

pub negated_around : IsAround pattern_after cond_after (λ p. of_cond.Negated p) (λ whole. Whole (condition_of true None whole))
negated_around names part token x e = ap (around (λ p. Part (of_cond.Negated p)) (λ whole. Whole (condition_of true None whole))) e

pub named_around : (name : ℕ) → IsAround pattern_after cond_after (λ p. of_cond.Named name p) (λ whole. Part (of_cond.Closing (condition_of false (Some name) whole)))
named_around name names part token x e =
    ap (around (λ p. Part (of_cond.Named name p)) (λ whole. Part (of_cond.Closing (condition_of false (Some name) whole)))) e

pub unnamed_around : IsAround pattern_after cond_after (λ p. of_cond.Unnamed p) (λ whole. Part (of_cond.Behind whole))
unnamed_around names part token x e = ap (around (λ p. Part (of_cond.Unnamed p)) (λ whole. Part (of_cond.Behind whole))) e

-- an element variable before its pattern
name_first : (n : ℕ) (names : Names) (token : Token) (after : Names) → variable_of names token ≡ Some (after, n) → brace_begun names token ≡ Some (after, Part (of_cond.Named n of_pattern.Nothing))
name_first n names (Variable name) after e = ap (grown {V = FormCond} (λ m. of_cond.Named m of_pattern.Nothing)) e
name_first n names token after e = absurd (cc)

leads_plain : (from : CondPart → Names → Read) (to : FormCond → Names → Read) → IsWithin cond_after from to → (whole : Pattern)
    → Leads (pattern_of whole) (from of_cond.Nothing) (to (condition_of false None whole))
leads_plain from to there whole =
    leads_pattern (from of_cond.Nothing) (λ p. from (of_cond.Plain p)) (λ w. to (condition_of false None w))
    (λ names. there names of_cond.Nothing Open (names, Part (of_cond.Plain of_pattern.Open)) refl)
    (within_part pattern_after cond_after (λ p. of_cond.Plain p) (λ w. Whole (condition_of false None w)) from to there plain_around) whole

leads_negated : (from : CondPart → Names → Read) (to : FormCond → Names → Read) → IsWithin cond_after from to → (whole : Pattern)
    → Leads (the Minus ⨾ pattern_of whole) (from of_cond.Nothing) (to (condition_of true None whole))
leads_negated from to there whole =
    let behind = from (of_cond.Negated of_pattern.Nothing) in
    leads_then (the Minus) (pattern_of whole) (from of_cond.Nothing) behind (to (condition_of true None whole))
    (leads_the Minus (from of_cond.Nothing) behind (λ names. there names of_cond.Nothing Minus (names, Part (of_cond.Negated of_pattern.Nothing)) refl))
    (leads_pattern behind (λ p. from (of_cond.Negated p)) (λ w. to (condition_of true None w))
    (λ names. there names (of_cond.Negated of_pattern.Nothing) Open (names, Part (of_cond.Negated of_pattern.Open)) refl)
    (within_part pattern_after cond_after (λ p. of_cond.Negated p) (λ w. Whole (condition_of true None w)) from to there negated_around) whole)

-- the first brace
leads_brace : (from : CondPart → Names → Read) (to : FormCond → Names → Read) → IsWithin cond_after from to → Leads (the OpenBrace) (from of_cond.Nothing) (from of_cond.Brace)
leads_brace from to there =
    leads_the OpenBrace (from of_cond.Nothing) (from of_cond.Brace) (λ names. there names of_cond.Nothing OpenBrace (names, Part of_cond.Brace) refl)

-- the last brace
leads_closing : (from : CondPart → Names → Read) (to : FormCond → Names → Read) → IsWithin cond_after from to → (c : FormCond) → Leads (the CloseBrace) (from (of_cond.Closing c)) (to c)
leads_closing from to there c =
    leads_the CloseBrace (from (of_cond.Closing c)) (to c) (λ names. there names (of_cond.Closing c) CloseBrace (names, Whole c) refl)

leads_named : (from : CondPart → Names → Read) (to : FormCond → Names → Read) → IsWithin cond_after from to → (name : ℕ) (whole : Pattern)
    → Leads (the OpenBrace ⨾ variable name ⨾ pattern_of whole ⨾ the CloseBrace) (from of_cond.Nothing) (to (condition_of false (Some name) whole))
leads_named from to there name whole =
    let c = condition_of false (Some name) whole in
    let begin = from of_cond.Nothing in
    let behind = from (of_cond.Named name of_pattern.Nothing) in
    leads_then (the OpenBrace ⨾ variable name ⨾ pattern_of whole) (the CloseBrace) begin (from (of_cond.Closing c)) (to c)
    (leads_then (the OpenBrace ⨾ variable name) (pattern_of whole) begin behind (from (of_cond.Closing c))
    (leads_then (the OpenBrace) (variable name) begin (from of_cond.Brace) behind
    (leads_brace from to there)
    (leads_taken variable_of variable variable_taken name (from of_cond.Brace) behind
    (λ names token after e. there names of_cond.Brace token (after, Part (of_cond.Named name of_pattern.Nothing)) (name_first name names token after e))))
    (leads_pattern behind (λ p. from (of_cond.Named name p)) (λ w. from (of_cond.Closing (condition_of false (Some name) w)))
    (λ names. there names (of_cond.Named name of_pattern.Nothing) Open (names, Part (of_cond.Named name of_pattern.Open)) refl)
    (within_part pattern_after cond_after (λ p. of_cond.Named name p) (λ w. Part (of_cond.Closing (condition_of false (Some name) w))) from to there (named_around name)) whole))
    (leads_closing from to there c)

leads_unnamed : (from : CondPart → Names → Read) (to : FormCond → Names → Read) → IsWithin cond_after from to → (name : ℕ) (whole : Pattern)
    → Leads (the OpenBrace ⨾ pattern_of whole ⨾ variable name ⨾ the CloseBrace) (from of_cond.Nothing) (to (condition_of false (Some name) whole))
leads_unnamed from to there name whole =
    let c = condition_of false (Some name) whole in
    let begin = from of_cond.Nothing in
    leads_then (the OpenBrace ⨾ pattern_of whole ⨾ variable name) (the CloseBrace) begin (from (of_cond.Closing c)) (to c)
    (leads_then (the OpenBrace ⨾ pattern_of whole) (variable name) begin (from (of_cond.Behind whole)) (from (of_cond.Closing c))
    (leads_then (the OpenBrace) (pattern_of whole) begin (from of_cond.Brace) (from (of_cond.Behind whole))
    (leads_brace from to there)
    (leads_pattern (from of_cond.Brace) (λ p. from (of_cond.Unnamed p)) (λ w. from (of_cond.Behind w))
    (λ names. there names of_cond.Brace Open (names, Part (of_cond.Unnamed of_pattern.Open)) refl)
    (within_part pattern_after cond_after (λ p. of_cond.Unnamed p) (λ w. Part (of_cond.Behind w)) from to there unnamed_around) whole))
    (leads_taken variable_of variable variable_taken name (from (of_cond.Behind whole)) (from (of_cond.Closing c))
    (λ names token after e. there names (of_cond.Behind whole) token (after, Part (of_cond.Closing c))
    (ap (grown {V = FormCond} (λ n. of_cond.Closing (condition_of false (Some n) whole))) e))))
    (leads_closing from to there c)

-- a condition element with this sign and this name
leads_signed : (from : CondPart → Names → Read) (to : FormCond → Names → Read) → IsWithin cond_after from to → (negated : Bool) (named : Option ℕ) (whole : Pattern)
    → Leads (signed negated named (pattern_of whole)) (from of_cond.Nothing) (to (condition_of negated named whole))
leads_signed from to there false None whole = leads_plain from to there whole
leads_signed from to there true None whole = leads_negated from to there whole
leads_signed from to there false (Some name) whole =
    leads_either (the OpenBrace ⨾ variable name ⨾ pattern_of whole ⨾ the CloseBrace) (the OpenBrace ⨾ pattern_of whole ⨾ variable name ⨾ the CloseBrace)
    (from of_cond.Nothing) (to (condition_of false (Some name) whole)) (leads_named from to there name whole) (leads_unnamed from to there name whole)
leads_signed from to there true (Some name) whole =
    leads_never (signed true (Some name) (pattern_of whole)) (from of_cond.Nothing) (to (condition_of true (Some name) whole)) (λ before tokens after h. h)

pub leads_condition : (from : CondPart → Names → Read) (to : FormCond → Names → Read) → IsWithin cond_after from to → (c : FormCond) → Leads (condition c) (from of_cond.Nothing) (to c)
leads_condition from to there c = leads_signed from to there c.negated c.named (record { class = c.class; tests = c.tests })
