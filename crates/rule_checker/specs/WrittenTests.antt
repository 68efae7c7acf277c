-- What a written test asks of the value of an attribute, over names and values alone.
use Rattle.std.specs.Prelude.{ℕ, List, [], ◌∷◌, Option, None, Some, option_and_then}
use Rattle.std.specs.List.{list_any}
use Rattle.rule_base.specs.declared.value.Value.{Value}
use Rattle.rule_base.specs.Chains.{only_if}
use Rattle.rule_base.specs.Value.{same_value}
use Rattle.rule_base.specs.Predicate.{holds}
use Rattle.ops_reader.specs.declared.form.FormArg.{FormArg}
use Rattle.ops_reader.specs.declared.form.FormArg.TheVariants.{Con, Name}
use Rattle.ops_reader.specs.declared.form.Simple.{Simple}
use Rattle.ops_reader.specs.declared.form.Simple.TheVariants.{Plain, Cmp, OneOf}
use Rattle.rule_checker.specs.NamedBindings.{NamedValues, value_named, naming}

-- what a predicate compares with: the constant, or the value of the variable of this name; one without a value makes the
-- test fail, which no checked rule meets
abbrev pub argument_value : FormArg → NamedValues → Option Value
argument_value (Con other) bindings = Some other
argument_value (Name name) bindings = value_named bindings name

-- a variable by itself: one that has a value asks for an equal one, and one that has none gets this value
abbrev pub after_use : ℕ → Option Value → NamedValues → Value → Option NamedValues
after_use name (Some other) bindings value = only_if (same_value value other) bindings
after_use name None bindings value = Some (naming bindings name value)

-- the bindings after a test of an attribute's value, or none where it fails
abbrev pub after_written_test : Simple → NamedValues → Value → Option NamedValues
after_written_test (Plain (Con other)) bindings value = only_if (same_value value other) bindings
after_written_test (Plain (Name name)) bindings value = after_use name (value_named bindings name) bindings value
after_written_test (Cmp pred argument) bindings value = option_and_then (λ other. only_if (holds pred value other) bindings) (argument_value argument bindings)
after_written_test (OneOf among) bindings value = only_if (list_any (same_value value) among) bindings

-- the bindings after the tests of braces, from left to right
abbrev pub after_braces : List Simple → NamedValues → Value → Option NamedValues
after_braces [] bindings value = Some bindings
after_braces (test ∷ tests) bindings value = option_and_then (λ after. after_braces tests after value) (after_written_test test bindings value)
