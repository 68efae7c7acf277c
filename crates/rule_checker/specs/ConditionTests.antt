-- The rules of the tests of a condition element, from left to right.
use Rattle.std.specs.Prelude.{ℕ, List, [], ◌∷◌, ◌++◌, Bool, Option, Some, None, Result, Ok}
use Rattle.rule_base.specs.declared.condition.Pred.{Pred}
use Rattle.rule_base.specs.declared.condition.Pred.TheVariants.{Eq}
use Rattle.rule_base.specs.declared.condition.Arg.TheVariants as arg
use Rattle.rule_base.specs.declared.condition.Test.{Test}
use Rattle.rule_base.specs.declared.condition.Test.TheVariants as test
use Rattle.rule_base.specs.Chains.{◌>>=◌}
use Rattle.ops_reader.specs.declared.form.FormArg.TheVariants as written
use Rattle.ops_reader.specs.declared.form.Simple.{Simple}
use Rattle.ops_reader.specs.declared.form.Simple.TheVariants as simple
use Rattle.rule_checker.specs.declared.refusal.CheckKind.{CheckKind}
use Rattle.rule_checker.specs.declared.scope.Scope.{Scope}
use Rattle.rule_checker.specs.declared.condition_tests.TestsSoFar.{TestsSoFar}
use Rattle.rule_checker.specs.Classes.{has_attribute}
use Rattle.rule_checker.specs.Scope.{variable_of, bound_to_its_left, with_variable}
use Rattle.rule_checker.specs.Walk.{after_each}

-- one test more, of no new variable
abbrev pub with_test : TestsSoFar → Test → TestsSoFar
with_test done t = record done { tests = done.tests ++ t ∷ [] }

-- a plain use of a variable: a later one asks for the variable's value, the first one binds it
abbrev pub with_use : Bool → ℕ → TestsSoFar → ℕ → Option ℕ → TestsSoFar
with_use negated attr done name (Some var) = with_test done (test.Cmp attr Eq (arg.Var var))
with_use negated attr done name None =
    record { tests = done.tests ++ test.Bind attr done.scope.vars ∷ []; scope = with_variable negated done.scope name }

-- a predicate with a variable, which is bound to its left
abbrev pub with_comparison : ℕ → TestsSoFar → Pred → ℕ → Result TestsSoFar CheckKind
with_comparison attr done pred name = bound_to_its_left done.scope name >>= λ var. Ok (with_test done (test.Cmp attr pred (arg.Var var)))

-- one written test more, of the attribute with this number: a constant alone asks for an equal value
abbrev pub with_simple : Bool → ℕ → TestsSoFar → Simple → Result TestsSoFar CheckKind
with_simple negated attr done (simple.Plain (written.Con value)) = Ok (with_test done (test.Cmp attr Eq (arg.Con value)))
with_simple negated attr done (simple.Plain (written.Name name)) = Ok (with_use negated attr done name (variable_of done.scope name))
with_simple negated attr done (simple.Cmp pred (written.Con value)) = Ok (with_test done (test.Cmp attr pred (arg.Con value)))
with_simple negated attr done (simple.Cmp pred (written.Name name)) = with_comparison attr done pred name
with_simple negated attr done (simple.OneOf among) = Ok (with_test done (test.OneOf attr among))

-- the tests of one attribute more, which is the class's
abbrev pub with_tests : Bool → List ℕ → TestsSoFar → ℕ × List Simple → Result TestsSoFar CheckKind
with_tests negated attrs done written = has_attribute attrs written.0 >>= λ attr. after_each (with_simple negated attr) done written.1

-- the tests of a condition element of a class with these attributes, and the variables behind them
abbrev pub tests_of : Scope → Bool → List ℕ → List (ℕ × List Simple) → Result TestsSoFar CheckKind
tests_of scope negated attrs written = after_each (with_tests negated attrs) (record { tests = []; scope = scope }) written
