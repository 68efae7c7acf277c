-- An attribute with its tests is read to its end.
use Rattle.std.proofs.Common.{◌≡◌, ℕ, List, [], ◌∷◌, ◌++◌, Some, refl, ap}
use Rattle.ops_text.specs.Names.{Names}
use Rattle.rule_base.specs.declared.value.Value.{Value}
use Rattle.rule_base.specs.declared.condition.Pred.{Pred}
use Rattle.rule_base.specs.declared.condition.Pred.TheVariants as pred
use Rattle.ops_reader.specs.declared.form.FormArg.{FormArg}
use Rattle.ops_reader.specs.declared.form.Simple.{Simple}
use Rattle.ops_reader.specs.declared.form.Simple.TheVariants as a_test
use Rattle.ops_reader.specs.declared.part.Step.TheVariants.{Part, Whole}
use Rattle.ops_reader.specs.declared.part.SimplePart.{SimplePart}
use Rattle.ops_reader.specs.declared.part.SimplePart.TheVariants as of_simple
use Rattle.ops_reader.specs.declared.part.TestPart.{TestPart}
use Rattle.ops_reader.specs.declared.part.TestPart.TheVariants as of_test
use Rattle.ops_tokens.specs.Token.{Token, OpenBrace, CloseBrace, Caret, OpenList, CloseList, Predicate}
use Rattle.ops_reader.specs.Grammar.{◌⨾◌, any, the, symbol, constant, argument, setting, compared, simple, alone, test}
use Rattle.ops_reader.specs.Taken.{symbol_of, constant_of, argument_of, grown, made, around}
use Rattle.ops_reader.specs.TestReading.{compared_by, values_after, simple_begun, simple_after, with_simple, test_after}
use Rattle.ops_reader.specs.Reading.{Read}
use Rattle.ops_reader.proofs.CompleteBasics.{Leads, leads_then, leads_either, leads_never, leads_any, leads_the, leads_taken, symbol_taken, constant_taken, argument_taken, IsWithin, IsAround, within_part}

-- an argument that begins a test
plain_taken : (a : FormArg) (names : Names) (token : Token) (after : Names) → argument_of names token ≡ Some (after, a) → simple_begun names token ≡ Some (after, Whole (a_test.Plain a))
plain_taken a names (Predicate p) after e = absurd (cc)
plain_taken a names OpenList after e = absurd (cc)
plain_taken a names token after e = ap (made {P = SimplePart} a_test.Plain) e

-- a constant among others
value_taken : (values : List Value) (v : Value) (names : Names) (token : Token) (after : Names) → constant_of names token ≡ Some (after, v)
    → values_after names values token ≡ Some (after, Part (of_simple.OneOf (values ++ v ∷ [])))
value_taken values v names CloseList after e = absurd (cc)
value_taken values v names token after e = ap (grown {V = Simple} (λ w. of_simple.OneOf (values ++ w ∷ []))) e

leads_compared : (from : SimplePart → Names → Read) (to : Simple → Names → Read) → IsWithin simple_after from to → (p : Pred) (a : FormArg)
    → Leads (the (Predicate p) ⨾ argument a) (from of_simple.Nothing) (to (compared_by p a))
leads_compared from to there p a =
    leads_then (the (Predicate p)) (argument a) (from of_simple.Nothing) (from (of_simple.Predicate p)) (to (compared_by p a))
    (leads_the (Predicate p) (from of_simple.Nothing) (from (of_simple.Predicate p)) (λ names. there names of_simple.Nothing (Predicate p) (names, Part (of_simple.Predicate p)) refl))
    (leads_taken argument_of argument argument_taken a (from (of_simple.Predicate p)) (to (compared_by p a))
    (λ names token after e. there names (of_simple.Predicate p) token (after, Whole (compared_by p a)) (ap (made {P = SimplePart} (compared_by p)) e)))

leads_cmp : (from : SimplePart → Names → Read) (to : Simple → Names → Read) → IsWithin simple_after from to → (p : Pred) (a : FormArg)
    → Leads (compared p (argument a)) (from of_simple.Nothing) (to (a_test.Cmp p a))
leads_cmp from to there pred.Eq a = leads_never (compared pred.Eq (argument a)) (from of_simple.Nothing) (to (a_test.Cmp pred.Eq a)) (λ before tokens after h. h)
leads_cmp from to there p a = leads_compared from to there p a

leads_values : (from : SimplePart → Names → Read) (to : Simple → Names → Read) → IsWithin simple_after from to → (values : List Value)
    → Leads (simple (a_test.OneOf values)) (from of_simple.Nothing) (to (a_test.OneOf values))
leads_values from to there values =
    let within = λ (l : List Value). from (of_simple.OneOf l) in
    leads_then (the OpenList ⨾ any constant values) (the CloseList) (from of_simple.Nothing) (within values) (to (a_test.OneOf values))
    (leads_then (the OpenList) (any constant values) (from of_simple.Nothing) (within []) (within values)
    (leads_the OpenList (from of_simple.Nothing) (within []) (λ names. there names of_simple.Nothing OpenList (names, Part (of_simple.OneOf [])) refl))
    (leads_any constant within
    (λ l v. leads_taken constant_of constant constant_taken v (within l) (within (l ++ v ∷ []))
    (λ names token after e. there names (of_simple.OneOf l) token (after, Part (of_simple.OneOf (l ++ v ∷ []))) (value_taken l v names token after e)))
    [] values))
    (leads_the CloseList (within values) (to (a_test.OneOf values)) (λ names. there names (of_simple.OneOf values) CloseList (names, Whole (a_test.OneOf values)) refl))

pub leads_simple : (from : SimplePart → Names → Read) (to : Simple → Names → Read) → IsWithin simple_after from to → (one : Simple) → Leads (simple one) (from of_simple.Nothing) (to one)
leads_simple from to there (a_test.Plain a) =
    leads_either (argument a) (the (Predicate pred.Eq) ⨾ argument a) (from of_simple.Nothing) (to (a_test.Plain a))
    (leads_taken argument_of argument argument_taken a (from of_simple.Nothing) (to (a_test.Plain a))
    (λ names token after e. there names of_simple.Nothing token (after, Whole (a_test.Plain a)) (plain_taken a names token after e)))
    (leads_compared from to there pred.Eq a)
leads_simple from to there (a_test.Cmp p a) = leads_cmp from to there p a
leads_simple from to there (a_test.OneOf values) = leads_values from to there values

-- a test without braces stands in a part of an attribute with its tests
pub alone_around : (attr : ℕ) → IsAround simple_after test_after (λ s. of_test.Alone attr s) (λ one. Whole (attr, one ∷ []))
alone_around attr names of_simple.Nothing OpenBrace x e = absurd (cc)
alone_around attr names part token x e = ap (around (λ s. Part (of_test.Alone attr s)) (λ one. Whole (attr, one ∷ []))) e

-- and so does one in braces
pub braced_around : (attr : ℕ) (simples : List Simple) → IsAround simple_after test_after (λ s. of_test.Braced attr simples s) (with_simple attr simples)
braced_around attr simples names of_simple.Nothing CloseBrace x e = absurd (cc)
braced_around attr simples names part token x e = ap (around (λ s. Part (of_test.Braced attr simples s)) (with_simple attr simples)) e

leads_alone : (from : TestPart → Names → Read) (to : ℕ × List Simple → Names → Read) → IsWithin test_after from to → (attr : ℕ) (tests : List Simple)
    → Leads (alone tests) (from (of_test.Alone attr of_simple.Nothing)) (to (attr, tests))
leads_alone from to there attr (one ∷ []) =
    leads_simple (λ s. from (of_test.Alone attr s)) (λ t. to (attr, t ∷ []))
    (within_part simple_after test_after (λ s. of_test.Alone attr s) (λ t. Whole (attr, t ∷ [])) from to there (alone_around attr)) one
leads_alone from to there attr tests = leads_never (alone tests) (from (of_test.Alone attr of_simple.Nothing)) (to (attr, tests)) (λ before tokens after h. h)

leads_braced : (from : TestPart → Names → Read) (to : ℕ × List Simple → Names → Read) → IsWithin test_after from to → (attr : ℕ) (tests : List Simple)
    → Leads (the OpenBrace ⨾ any simple tests ⨾ the CloseBrace) (from (of_test.Alone attr of_simple.Nothing)) (to (attr, tests))
leads_braced from to there attr tests =
    let begin = from (of_test.Alone attr of_simple.Nothing) in
    let within = λ (l : List Simple). from (of_test.Braced attr l of_simple.Nothing) in
    leads_then (the OpenBrace ⨾ any simple tests) (the CloseBrace) begin (within tests) (to (attr, tests))
    (leads_then (the OpenBrace) (any simple tests) begin (within []) (within tests)
    (leads_the OpenBrace begin (within []) (λ names. there names (of_test.Alone attr of_simple.Nothing) OpenBrace (names, Part (of_test.Braced attr [] of_simple.Nothing)) refl))
    (leads_any simple within
    (λ l one. leads_simple (λ s. from (of_test.Braced attr l s)) (λ t. within (l ++ t ∷ []))
    (within_part simple_after test_after (λ s. of_test.Braced attr l s) (with_simple attr l) from to there (braced_around attr l)) one)
    [] tests))
    (leads_the CloseBrace (within tests) (to (attr, tests)) (λ names. there names (of_test.Braced attr tests of_simple.Nothing) CloseBrace (names, Whole (attr, tests)) refl))

pub leads_test : (from : TestPart → Names → Read) (to : ℕ × List Simple → Names → Read) → IsWithin test_after from to → (attr : ℕ) (tests : List Simple)
    → Leads (setting test (attr, tests)) (from of_test.Nothing) (to (attr, tests))
leads_test from to there attr tests =
    let behind = from (of_test.Alone attr of_simple.Nothing) in
    leads_then (the Caret ⨾ symbol attr) (test tests) (from of_test.Nothing) behind (to (attr, tests))
    (leads_then (the Caret) (symbol attr) (from of_test.Nothing) (from of_test.Caret) behind
    (leads_the Caret (from of_test.Nothing) (from of_test.Caret) (λ names. there names of_test.Nothing Caret (names, Part of_test.Caret) refl))
    (leads_taken symbol_of symbol symbol_taken attr (from of_test.Caret) behind
    (λ names token after e. there names of_test.Caret token (after, Part (of_test.Alone attr of_simple.Nothing))
    (ap (grown {V = ℕ × List Simple} (λ n. of_test.Alone n of_simple.Nothing)) e))))
    (leads_either (alone tests) (the OpenBrace ⨾ any simple tests ⨾ the CloseBrace) behind (to (attr, tests))
    (leads_alone from to there attr tests) (leads_braced from to there attr tests))
