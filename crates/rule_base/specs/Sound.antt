-- Sound programs: what the checker answers, and what every call that takes a program relies on. Facts about rules
-- speak of the sizes of all classes, in order: how many attributes each has.
use Rattle.std.specs.Prelude.{◌≡◌, ℕ, ◌≤◌, List, [], true, Contains, Some, length, map, nat_eq, slice_get}
use Rattle.std.specs.List.{AllByRecursion, IsDistinct}
use Rattle.rule_base.specs.declared.value.Value.{Value}
use Rattle.rule_base.specs.declared.condition.Cond.{Cond}
use Rattle.rule_base.specs.declared.program.Rule.{Rule}
use Rattle.rule_base.specs.declared.program.Class.{Class}
use Rattle.rule_base.specs.declared.program.Program.{Program}
pub use Rattle.rule_base.specs.SoundConditions.{IsKnown, known_after_test, known_after_cond, known_after_conds, SoundArg, SoundTest, SoundTests, SoundConds, positive_classes, bound_by_test, bound_variables, begins_positive}
pub use Rattle.rule_base.specs.SoundActions.{SoundTree, SoundLeaf, SoundTerm, SoundSets, SoundItem, SoundAction, known_after_action, SoundActions}

-- the sizes of classes
abbrev pub sizes_of : List Class → List ℕ
sizes_of classes = map (λ (c : Class). length c.attrs) classes

-- a rule over classes of these sizes
pub record IsSoundRule (sizes : List ℕ) (rule : Rule) : Type 0 where
  pub few_conds : length rule.conds ≤ 32
  pub few_actions : length rule.actions ≤ 64
  pub positive_count : rule.positives ≡ length (positive_classes rule.conds)
  pub first_positive : begins_positive rule.conds ≡ true
  -- no variable is bound by two tests
  pub bound_once : IsDistinct nat_eq (bound_variables rule.conds)
  pub sound_conds : SoundConds sizes rule.vars [] rule.conds
  pub sound_actions : SoundActions sizes (positive_classes rule.conds) rule.vars (known_after_conds [] rule.conds) rule.actions

-- a condition element that stands in a sound rule
pub record IsSoundCond (sizes : List ℕ) (cond : Cond) : Type 0 where
  pub rule : Rule
  pub sound : IsSoundRule sizes rule
  pub stands : Contains rule.conds cond

-- a program whose rules and makes are sound for its classes, within the language's limits
pub record IsSound (program : Program) : Type 0 where
  pub few_classes : length program.classes ≤ 256
  pub few_attributes : AllByRecursion (λ (c : Class). length c.attrs ≤ 64) program.classes
  pub few_rules : length program.rules ≤ 4096
  pub sound_rules : AllByRecursion (IsSoundRule (sizes_of program.classes)) program.rules
  -- each top-level make has a value for each attribute of its class
  pub sound_makes : AllByRecursion (λ (make : ℕ × List Value). slice_get (sizes_of program.classes) make.0 ≡ Some (length make.1)) program.makes
