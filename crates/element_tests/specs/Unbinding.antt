-- Taking values away: how a row of bindings is brought back to what it was before a condition element accepted.
use Rattle.std.specs.Prelude.{◌≡◌, ℕ, List, Some, None, fold, slice_set}
use Rattle.rule_base.specs.declared.condition.Test.{Test}
use Rattle.rule_base.specs.declared.condition.Test.TheVariants.{Bind, Cmp, OneOf}
use Rattle.rule_base.specs.declared.condition.Cond.{Cond}
use Rattle.rule_base.specs.declared.element.Element.{Element}
use Rattle.rule_base.specs.Bindings.{Bindings}
use Rattle.rule_base.specs.Acceptance.{accepts}
use Rattle.element_tests.specs.Asking.{MayAsk}

-- the bindings once the variable has no value
abbrev pub unset : Bindings → ℕ → Bindings
unset bindings var = slice_set bindings var None

-- the bindings once what the test binds has no value
abbrev pub unbound_by_test : Bindings → Test → Bindings
unbound_by_test bindings (Bind attr var) = unset bindings var
unbound_by_test bindings (Cmp attr pred other) = bindings
unbound_by_test bindings (OneOf attr among) = bindings

-- the bindings once what the tests bind has no value
abbrev pub unbound_by : Bindings → List Test → Bindings
unbound_by bindings tests = fold unbound_by_test bindings tests

-- the second row is the one before the condition element accepted an element and left the first
abbrev pub Undoes : Cond → Bindings → Bindings → Type 0
Undoes cond after row = (before : Bindings) (e : Element) → MayAsk cond before e → accepts cond before e ≡ Some after → row ≡ before
