-- Condition elements are read back.
use Rattle.std.proofs.Common.{ℕ, List, [], ◌∷◌, ◌++◌, Bool, true, false, Option, Some, None, codes, refl, sym, subst, append-nil, arith}
use Rattle.std.specs.List.{flat_map}
use Rattle.ops_text.specs.Names.{Names}
use Rattle.rule_base.specs.declared.condition.Pred.{Pred}
use Rattle.rule_base.specs.declared.condition.Pred.TheVariants as pred
use Rattle.ops_reader.specs.declared.form.FormCond.{FormCond}
use Rattle.ops_reader.specs.declared.form.FormArg.{FormArg}
use Rattle.ops_reader.specs.declared.form.Simple.{Simple}
use Rattle.ops_reader.specs.declared.form.Simple.TheVariants as a_test
use Rattle.ops_tokens.specs.Naming.{predicate_name}
use Rattle.ops_tokens.specs.Token.{Open, OpenBrace, CloseBrace, Minus, OpenList, CloseList, Predicate}
use Rattle.ops_reader.specs.Grammar.{Phrase, ◌⨾◌, any, the, symbol, variable, constant, argument, setting, compared, simple, test, pattern, signed, condition}
use Rattle.form_printer.specs.CanonicalValues.{symbol_text, variable_text, constant_text, argument_text, spaced, setting_text}
use Rattle.form_printer.specs.CanonicalConditions.{simple_text, test_text, pattern_text, signed_text, condition_text}
use Rattle.ops_reader.specs.Named.{numbers_in_value, numbers_in_argument, numbers_in_setting, numbers_in_simple, numbers_in_option, numbers_in_condition}
use Rattle.form_printer.proofs.PrintedTokens.{EndsWords}
use Rattle.form_printer.proofs.ReadBack.{Prints, PrintsThere, IsReadBack, AreWithin, the_keeps, nothing_keeps, prints_then, prints_apart, prints_blank, prints_after_blank, prints_one, prints_other, read_behind, read_before, read_both, read_either, read_never, read_as, read_spaced, spaced_ends, within_front, within_back}
use Rattle.form_printer.proofs.ReadBackBrackets.{the_prints, bracket_open, read_listed}
use Rattle.form_printer.proofs.ReadBackValues.{read_symbol, read_variable, read_constant, read_argument, read_setting}

-- predicates
predicate_prints : (p : Pred) (names : Names) → Prints (the (Predicate p)) names (predicate_name p)
predicate_prints pred.Eq = the_prints (Predicate pred.Eq) (codes "=") (omega arith) refl refl
predicate_prints pred.Ne = the_prints (Predicate pred.Ne) (codes "<>") (omega arith) refl refl
predicate_prints pred.Lt = the_prints (Predicate pred.Lt) (codes "<") (omega arith) refl refl
predicate_prints pred.Le = the_prints (Predicate pred.Le) (codes "<=") (omega arith) refl refl
predicate_prints pred.Gt = the_prints (Predicate pred.Gt) (codes ">") (omega arith) refl refl
predicate_prints pred.Ge = the_prints (Predicate pred.Ge) (codes ">=") (omega arith) refl refl
predicate_prints pred.Same = the_prints (Predicate pred.Same) (codes "<=>") (omega arith) refl refl

read_comparison : (p : Pred) (a : FormArg)
    → IsReadBack (the (Predicate p) ⨾ argument a) (the (Predicate p) ⨾ argument a) (numbers_in_argument a) (λ names. predicate_name p ++ codes " " ++ argument_text names a)
read_comparison p a = read_behind (the_keeps (Predicate p)) (read_argument a) (λ names h. prints_then (prints_blank (predicate_prints p names)) h)

read_compared : (p : Pred) (a : FormArg)
    → IsReadBack (compared p (argument a)) (compared p (argument a)) (numbers_in_argument a) (λ names. predicate_name p ++ codes " " ++ argument_text names a)
read_compared pred.Eq a = read_never (λ before tokens after h. h)
read_compared pred.Ne a = read_comparison pred.Ne a
read_compared pred.Lt a = read_comparison pred.Lt a
read_compared pred.Le a = read_comparison pred.Le a
read_compared pred.Gt a = read_comparison pred.Gt a
read_compared pred.Ge a = read_comparison pred.Ge a
read_compared pred.Same a = read_comparison pred.Same a

-- one test
lists_close : (names : Names) → Prints (the CloseList) names (codes " >>")
lists_close names = prints_after_blank (the_prints CloseList (codes ">>") (omega arith) refl refl names)

read_simple : (s : Simple) → IsReadBack (simple s) (simple s) (numbers_in_simple s) (λ names. simple_text names s)
read_simple (a_test.Plain a) =
    read_either (read_as (read_argument a) (λ names h. h) (λ names h. prints_one h)) (read_behind (the_keeps (Predicate pred.Eq)) (read_argument a) (λ names h. prints_one h))
read_simple (a_test.Cmp p a) = read_compared p a
read_simple (a_test.OneOf values) =
    read_before (the_keeps CloseList)
    (read_behind {r = the OpenList ⨾ any constant values} {whole = λ names. codes "<<" ++ spaced (constant_text names) values} (the_keeps OpenList)
    (read_spaced constant numbers_in_value constant_text read_constant values) (λ names h. prints_apart (spaced_ends (constant_text names) values) (the_prints OpenList (codes "<<") (omega arith) refl refl names) h))
    (λ names h. prints_apart (λ rest end. refl) h (lists_close names))

-- the tests of an attribute
braces_open : (names : Names) → PrintsThere (the OpenBrace) names (codes "{")
braces_open names = record { found = OpenBrace ∷ []; has = λ rest. refl; spelled = (refl, refl) }

braces_close : (names : Names) → Prints (the CloseBrace) names (codes " }")
braces_close names = record { found = CloseBrace ∷ []; has = λ rest end. refl; spelled = (refl, refl) }

abbrev braced : List Simple → Phrase
braced tests = the OpenBrace ⨾ any simple tests ⨾ the CloseBrace

read_braced : (tests : List Simple) → IsReadBack (braced tests) (braced tests) (flat_map numbers_in_simple tests) (λ names. codes "{" ++ spaced (simple_text names) tests ++ codes " }")
read_braced tests =
    read_before (the_keeps CloseBrace)
    (read_behind {r = the OpenBrace ⨾ any simple tests} {whole = λ names. codes "{" ++ spaced (simple_text names) tests} (the_keeps OpenBrace)
    (read_spaced simple numbers_in_simple simple_text read_simple tests) (λ names h. prints_then (braces_open names) h))
    (λ names h. prints_apart (λ rest end. refl) h (braces_close names))

read_test : (tests : List Simple) → IsReadBack (test tests) (test tests) (flat_map numbers_in_simple tests) (λ names. test_text names tests)
read_test [] = read_either (read_never (λ before tokens after h. h)) (read_as (read_braced []) (λ names h. h) (λ names h. prints_other h))
read_test (one ∷ []) =
    read_as
    (read_either
    (read_as (read_simple one) (λ names h. h) (λ names h. prints_one {q = braced (one ∷ [])} h))
    (read_before (the_keeps CloseBrace) (read_behind (the_keeps OpenBrace) (read_before nothing_keeps (read_simple one) (λ names h. h)) (λ names h. h)) (λ names h. prints_one h)))
    (λ names h. subst (AreWithin names) (sym (append-nil (numbers_in_simple one))) h) (λ names h. h)
read_test (one ∷ other ∷ more) = read_either (read_never (λ before tokens after h. h)) (read_as (read_braced (one ∷ other ∷ more)) (λ names h. h) (λ names h. prints_other h))

-- patterns
read_pattern : (c : FormCond) → IsReadBack (pattern c) (pattern c) (c.class ∷ flat_map (numbers_in_setting (flat_map numbers_in_simple)) c.tests) (λ names. pattern_text names c)
read_pattern c =
    read_listed (setting test) (numbers_in_setting (flat_map numbers_in_simple)) (λ names. setting_text names (test_text names))
    (read_behind {r = the Open ⨾ symbol c.class} {whole = λ names. codes "(" ++ symbol_text names c.class} (the_keeps Open) (read_symbol c.class) (λ names h. prints_then (bracket_open names) h))
    (read_setting test (flat_map numbers_in_simple) test_text read_test) c.tests

-- conditions
braces_open_apart : (names : Names) → PrintsThere (the OpenBrace) names (codes "{ ")
braces_open_apart names = record { found = OpenBrace ∷ []; has = λ rest. refl; spelled = (refl, refl) }

abbrev named : ℕ → Phrase → Phrase
named name phrase = the OpenBrace ⨾ variable name ⨾ phrase ⨾ the CloseBrace

abbrev named_behind : ℕ → Phrase → Phrase
named_behind name phrase = the OpenBrace ⨾ phrase ⨾ variable name ⨾ the CloseBrace

abbrev named_text : Names → ℕ → List ℕ → List ℕ
named_text names name text = codes "{ " ++ variable_text names name ++ codes " " ++ text ++ codes " }"

named_prints : (p : Phrase) (name : ℕ) (names : Names) (text : List ℕ) → Prints (variable name) names (variable_text names name) → Prints p names text → Prints (named name p) names (named_text names name text)
named_prints p name names text h k = prints_apart (λ rest end. refl) (prints_then (prints_blank (prints_then (braces_open_apart names) h)) k) (braces_close names)

read_named : (p : Phrase) (name class : ℕ) (ms : List ℕ) (text : Names → List ℕ) → IsReadBack p p (class ∷ ms) text
    → IsReadBack (named name p) (named name p) (class ∷ name ∷ ms) (λ names. named_text names name (text names))
read_named p name class ms text k =
    read_as
    (read_before (the_keeps CloseBrace)
    (read_both {r = named name p} {whole = λ names. named_text names name (text names)} (read_behind (the_keeps OpenBrace) (read_variable name) (λ names h. h)) k (λ names h m. named_prints p name names (text names) h m))
    (λ names h. h))
    (λ names h. (h.1.0, (h.0, h.1.1))) (λ names h. h)

read_named_behind : (p : Phrase) (name class : ℕ) (ms : List ℕ) (text : Names → List ℕ) → IsReadBack p p (class ∷ ms) text
    → IsReadBack (named_behind name p) (named name p) (class ∷ name ∷ ms) (λ names. named_text names name (text names))
read_named_behind p name class ms text k =
    read_as
    (read_before (the_keeps CloseBrace)
    (read_both {r = named name p} {whole = λ names. named_text names name (text names)} (read_behind (the_keeps OpenBrace) k (λ names h. h)) (read_variable name) (λ names h m. named_prints p name names (text names) m h))
    (λ names h. h))
    (λ names h. (h.0, ((within_back names ms (name ∷ []) h.1).0, within_front names ms (name ∷ []) h.1))) (λ names h. h)

read_signed : (negated : Bool) (name_of : Option ℕ) (p : Phrase) (class : ℕ) (ms : List ℕ) (text : Names → List ℕ)
    → IsReadBack p p (class ∷ ms) text → ((names : Names) → EndsWords (text names))
    → IsReadBack (signed negated name_of p) (signed negated name_of p) (class ∷ numbers_in_option name_of ++ ms) (λ names. signed_text names negated name_of (text names))
read_signed false None p class ms text k ends = k
read_signed true None p class ms text k ends = read_behind (the_keeps Minus) k (λ names h. prints_apart (ends names) (the_prints Minus (codes "-") (omega arith) refl refl names) h)
read_signed false (Some name) p class ms text k ends =
    read_either
    (read_as (read_named p name class ms text k) (λ names h. h) (λ names h. prints_one h))
    (read_as (read_named_behind p name class ms text k) (λ names h. h) (λ names h. prints_one h))
read_signed true (Some name) p class ms text k ends = read_never (λ before tokens after h. h)

pub read_condition : (c : FormCond) → IsReadBack (condition c) (condition c) (numbers_in_condition c) (λ names. condition_text names c)
read_condition c =
    read_signed c.negated c.named (pattern c) c.class (flat_map (numbers_in_setting (flat_map numbers_in_simple)) c.tests) (λ names. pattern_text names c) (read_pattern c) (λ names rest end. refl)
