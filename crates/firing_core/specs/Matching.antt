-- When condition elements may be matched against elements: all are sound, and the row of bindings fits them.
use Rattle.std.specs.Prelude.{ℕ, List, length, nat_eq}
use Rattle.std.specs.List.{AllByRecursion, IsDistinct}
use Rattle.rule_base.specs.declared.condition.Cond.{Cond}
use Rattle.rule_base.specs.Memory.{HasSize, Memory}
use Rattle.rule_base.specs.Bindings.{Bindings}
use Rattle.rule_base.specs.Sound.{SoundConds, bound_variables}
use Rattle.element_tests.specs.Asking.{BindsNew, HasPlace, HasValue, MayAsk}

-- no variable that the condition elements bind has a value
abbrev pub AllBindNew : Bindings → List Cond → Type 0
AllBindNew bindings conds = AllByRecursion (λ (c : Cond). AllByRecursion (BindsNew bindings) c.tests) conds

-- the condition elements may be matched from left to right, from these bindings on
pub record MayMatch (conds : List Cond) (memory : Memory) (bindings : Bindings) : Type 0 where
  -- the sizes of all classes
  pub sizes : List ℕ
  pub sized : AllByRecursion (HasSize sizes) memory
  -- variables that have a value
  pub known : List ℕ
  pub have_values : AllByRecursion (HasValue bindings) known
  pub sound : SoundConds sizes (length bindings) known conds
  pub bind_new : AllBindNew bindings conds
  -- no variable is bound by two tests
  pub bound_once : IsDistinct nat_eq (bound_variables conds)

-- one condition element may be asked of each element
pub record MayFilter (cond : Cond) (memory : Memory) (bindings : Bindings) : Type 0 where
  pub asked : AllByRecursion (MayAsk cond bindings) memory
  pub placed : AllByRecursion (HasPlace (length bindings)) cond.tests
