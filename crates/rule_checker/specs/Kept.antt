-- What the walk over a program keeps, so that each number fits where it is put.
use Rattle.std.specs.Prelude.{◌≡◌, ℕ, ◌+◌, ◌^◌, ◌<◌, ◌≤◌, List, length}
use Rattle.std.specs.List.{AllByRecursion, flat_map}
use Rattle.rule_base.specs.declared.program.Class.{Class}
use Rattle.ops_reader.specs.declared.form.Simple.{Simple}
use Rattle.ops_reader.specs.Named.{numbers_in_simple, numbers_in_setting}
use Rattle.rule_checker.specs.declared.scope.Scope.{Scope}
use Rattle.rule_checker.specs.declared.left_side.LeftSide.{LeftSide}
use Rattle.rule_checker.specs.Classes.{class_names}

-- no more classes, and no more attributes of one, than a program may have
pub record AreFewClasses (classes : List Class) : Type 0 where
  pub few_classes : length classes ≤ 256
  pub few_attributes : AllByRecursion (λ (c : Class). length c.attrs ≤ 64) classes

-- the names of classes, beside the classes
pub record IsClassTable (names : List ℕ) (classes : List Class) : Type 0 where
  pub named : names ≡ class_names classes
  pub few : AreFewClasses classes

-- no more condition elements than a rule may have, and no more elements than those
pub record HasFewConditions (left : LeftSide) : Type 0 where
  pub conds : length left.conds ≤ 32
  pub elements : length left.elements.classes ≤ length left.conds

-- an attribute, and the names in its tests
abbrev pub numbers_in_tests : ℕ × List Simple → List ℕ
numbers_in_tests = numbers_in_setting (flat_map numbers_in_simple)

-- each of these names can become a variable more, whose number has 32 bits
abbrev pub HasRoom : Scope → List ℕ → Type 0
HasRoom scope names = scope.vars + length names < 2 ^ 32

-- a later scope has at most one variable more for each of these names
abbrev pub GrowsWithin : Scope → List ℕ → Scope → Type 0
GrowsWithin scope names later = later.vars ≤ scope.vars + length names
