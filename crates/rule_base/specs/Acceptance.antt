-- Acceptance: what a condition element asks of one element, and the bindings that it leaves.
use Rattle.std.specs.Prelude.{List, [], ◌∷◌, Option, Some, slice_get, option_map, option_and_then, ◌==◌}
use Rattle.std.specs.List.{list_any}
use Rattle.rule_base.specs.declared.value.Value.{Value}
use Rattle.rule_base.specs.declared.element.Element.{Element}
use Rattle.rule_base.specs.declared.condition.Arg.{Arg}
use Rattle.rule_base.specs.declared.condition.Arg.TheVariants.{Con, Var}
use Rattle.rule_base.specs.declared.condition.Test.{Test}
use Rattle.rule_base.specs.declared.condition.Test.TheVariants.{Bind, Cmp, OneOf}
use Rattle.rule_base.specs.declared.condition.Cond.{Cond}
use Rattle.rule_base.specs.Chains.{only_if}
use Rattle.rule_base.specs.Value.{same_value}
use Rattle.rule_base.specs.Predicate.{holds}
use Rattle.rule_base.specs.Bindings.{Bindings, binding_of, bound}

-- what a predicate compares with: the constant, or the variable's value
abbrev pub compared_with : Arg → Bindings → Option Value
compared_with (Con value) bindings = Some value
compared_with (Var var) bindings = binding_of bindings var

-- the bindings after a test of an element's values, or none where it fails, the attribute isn't there or the
-- variable that it compares with has no value
abbrev pub after_test : Test → Bindings → List Value → Option Bindings
after_test (Bind attr var) bindings values = option_map (bound bindings var) (slice_get values attr)
after_test (Cmp attr pred arg) bindings values =
    option_and_then (λ value. option_and_then (λ other. only_if (holds pred value other) bindings) (compared_with arg bindings)) (slice_get values attr)
after_test (OneOf attr among) bindings values =
    option_and_then (λ value. only_if (list_any (same_value value) among) bindings) (slice_get values attr)

-- the bindings after tests from left to right, or none where one fails
abbrev pub after_tests : List Test → Bindings → List Value → Option Bindings
after_tests [] bindings values = Some bindings
after_tests (test ∷ tests) bindings values = option_and_then (λ after. after_tests tests after values) (after_test test bindings values)

-- the bindings with which the condition element accepts the element, or none where it doesn't
abbrev pub accepts : Cond → Bindings → Element → Option Bindings
accepts cond bindings e = option_and_then (λ given. after_tests cond.tests given e.values) (only_if (cond.class == e.class) bindings)
