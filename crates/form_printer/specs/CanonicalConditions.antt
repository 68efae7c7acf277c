-- The canonical text of condition elements.
use Rattle.std.specs.Prelude.{ℕ, List, [], ◌∷◌, ◌++◌, Bool, true, false, Option, Some, None, codes}
use Rattle.ops_text.specs.Names.{Names}
use Rattle.ops_reader.specs.declared.form.FormCond.{FormCond}
use Rattle.ops_reader.specs.declared.form.Simple.{Simple}
use Rattle.ops_reader.specs.declared.form.Simple.TheVariants as a_test
use Rattle.ops_tokens.specs.Naming.{predicate_name}
use Rattle.form_printer.specs.CanonicalValues.{symbol_text, variable_text, constant_text, argument_text, spaced, setting_text}

-- one test; the plain test has no `=`
abbrev pub simple_text : Names → Simple → List ℕ
simple_text names (a_test.Plain a) = argument_text names a
simple_text names (a_test.Cmp p a) = predicate_name p ++ codes " " ++ argument_text names a
simple_text names (a_test.OneOf values) = codes "<<" ++ spaced (constant_text names) values ++ codes " >>"

-- one test stands without braces, and any other number of them in braces
abbrev pub test_text : Names → List Simple → List ℕ
test_text names (one ∷ []) = simple_text names one
test_text names tests = codes "{" ++ spaced (simple_text names) tests ++ codes " }"

-- a class, and attributes with their tests
abbrev pub pattern_text : Names → FormCond → List ℕ
pattern_text names c = codes "(" ++ symbol_text names c.class ++ spaced (setting_text names (test_text names)) c.tests ++ codes ")"

-- a minus stands right before its pattern, and an element variable before it in braces
abbrev pub signed_text : Names → Bool → Option ℕ → List ℕ → List ℕ
signed_text names true named text = codes "-" ++ text
signed_text names false (Some name) text = codes "{ " ++ variable_text names name ++ codes " " ++ text ++ codes " }"
signed_text names false None text = text

-- a condition element
abbrev pub condition_text : Names → FormCond → List ℕ
condition_text names c = signed_text names c.negated c.named (pattern_text names c)
