-- When tests may be taken: what they look at is there.
use Rattle.std.specs.Prelude.{ℕ, ◌<◌, List, length}
use Rattle.std.specs.List.{AllByRecursion}
use Rattle.rule_base.specs.declared.value.Value.{Value}
use Rattle.rule_base.specs.declared.condition.Arg.{Arg}
use Rattle.rule_base.specs.declared.condition.Arg.TheVariants.{Con, Var}
use Rattle.rule_base.specs.declared.condition.Test.{Test}
use Rattle.rule_base.specs.declared.condition.Test.TheVariants.{Bind, Cmp, OneOf}
use Rattle.rule_base.specs.Sound.{SoundTests}
use Rattle.rule_base.specs.Bindings.{Bindings}
use Rattle.element_tests.specs.Asking.{HasValue, BindsNew}

-- what a test compares with is a constant, or a variable with a place and a value
abbrev pub HasOther : Bindings → Arg → Type 0
HasOther bindings (Con value) = Unit {0}
HasOther bindings (Var var) = (var < length bindings) × HasValue bindings var

-- the test may be taken of the values: its attribute is one of them, and its variable has a place and what it needs
abbrev pub MayTake : Bindings → List Value → Test → Type 0
MayTake bindings values (Bind attr var) = (attr < length values) × (var < length bindings)
MayTake bindings values (Cmp attr pred other) = (attr < length values) × HasOther bindings other
MayTake bindings values (OneOf attr among) = attr < length values

-- the tests may be taken one after another
pub record MayTakeAll (tests : List Test) (bindings : Bindings) (values : List Value) : Type 0 where
  pub known : List ℕ
  pub have_values : AllByRecursion (HasValue bindings) known
  pub sound : SoundTests (length values) (length bindings) known tests
  pub binds_new : AllByRecursion (BindsNew bindings) tests
