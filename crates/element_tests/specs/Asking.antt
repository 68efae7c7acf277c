-- When a condition element may be asked whether it accepts an element: it is sound, and the row of bindings fits it.
use Rattle.std.specs.Prelude.{◌≡◌, ℕ, ◌<◌, List, None, IsSome, length}
use Rattle.std.specs.List.{AllByRecursion}
use Rattle.rule_base.specs.declared.condition.Test.{Test}
use Rattle.rule_base.specs.declared.condition.Test.TheVariants.{Bind, Cmp, OneOf}
use Rattle.rule_base.specs.declared.condition.Cond.{Cond}
use Rattle.rule_base.specs.declared.element.Element.{Element}
use Rattle.rule_base.specs.Sound.{SoundTests}
use Rattle.rule_base.specs.Bindings.{Bindings, binding_of}

-- the variable has a value
abbrev pub HasValue : Bindings → ℕ → Type 0
HasValue bindings var = IsSome (binding_of bindings var)

-- a variable that the test binds has none
abbrev pub BindsNew : Bindings → Test → Type 0
BindsNew bindings (Bind attr var) = binding_of bindings var ≡ None
BindsNew bindings (Cmp attr pred other) = Unit {0}
BindsNew bindings (OneOf attr among) = Unit {0}

-- a variable that the test binds is one of so many
abbrev pub HasPlace : ℕ → Test → Type 0
HasPlace vars (Bind attr var) = var < vars
HasPlace vars (Cmp attr pred other) = Unit {0}
HasPlace vars (OneOf attr among) = Unit {0}

-- the condition element may be asked of the element under these bindings
pub record MayAsk (cond : Cond) (bindings : Bindings) (e : Element) : Type 0 where
  -- variables that have a value
  pub known : List ℕ
  pub have_values : AllByRecursion (HasValue bindings) known
  -- an element of its class has each attribute that is tested; the row has a place for each variable, and one that
  -- is compared is known, or bound by an earlier test
  pub sound : cond.class ≡ e.class → SoundTests (length e.values) (length bindings) known cond.tests
  -- no variable that is bound has a value
  pub binds_new : AllByRecursion (BindsNew bindings) cond.tests
