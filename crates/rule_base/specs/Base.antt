-- Lawful bases: what a run of a program may begin from.
use Rattle.std.specs.Prelude.{◌≡◌, ℕ, ◌<◌, ◌≤◌, ◌^◌, List, true, Some, length, option_map, slice_get}
use Rattle.std.specs.List.{AllByRecursion, IsDistinct}
use Rattle.rule_base.specs.declared.element.Element.{Element}
use Rattle.rule_base.specs.declared.instantiation.Choice.{Choice}
use Rattle.rule_base.specs.declared.program.Rule.{Rule}
use Rattle.rule_base.specs.declared.program.Program.{Program}
use Rattle.rule_base.specs.declared.base.Refraction.{Refraction}
use Rattle.rule_base.specs.declared.base.Refraction.TheVariants.{Once, Renewed}
use Rattle.rule_base.specs.declared.base.Base.{Base}
use Rattle.rule_base.specs.Memory.{Memory, IsMemory}
use Rattle.rule_base.specs.Sound.{sizes_of}
use Rattle.rule_base.specs.State.{same_choice}
use Rattle.rule_base.specs.Step.{is_listed}

-- a time tag that was given before this one: tags begin at 1
abbrev pub WasGiven : ℕ → ℕ → Type 0
WasGiven next tag = (1 ≤ tag) × (tag < next)

-- the choice has a rule of the program, and a tag for each of its positive condition elements, each of which was given
-- before this one
pub record FitsRule (program : Program) (next : ℕ) (c : Choice) : Type 0 where
  pub positives : option_map (λ (rule : Rule). rule.positives) (slice_get program.rules c.rule) ≡ Some (length c.tags)
  pub given : AllByRecursion (WasGiven next) c.tags

-- under `Renewed` the fired choices are in the conflict set
abbrev pub StillMatch : Refraction → Program → Memory → List Choice → Type 0
StillMatch Once program elements fired = Unit {0}
StillMatch Renewed program elements fired = AllByRecursion (λ (c : Choice). is_listed program elements c ≡ true) fired

-- a run of the program may begin from the base
pub record IsLawfulBase (program : Program) (base : Base) : Type 0 where
  pub memory : IsMemory (sizes_of program.classes) base.elements
  pub given : AllByRecursion (λ (e : Element). WasGiven base.next e.tag) base.elements
  pub from_one : 1 ≤ base.next
  pub few : base.next < 2 ^ 63
  -- no choice has fired twice
  pub distinct : IsDistinct same_choice base.fired
  pub fitting : AllByRecursion (FitsRule program base.next) base.fired
  pub matching : StillMatch base.refraction program base.elements base.fired
