-- Laws of bases: an opening has a lawful one, and so has the state after each run from a lawful one.
use Rattle.std.specs.Prelude.{◌≡◌, ◌<◌, ◌^◌, List, Some}
use Rattle.rule_base.specs.declared.instantiation.Choice.{Choice}
use Rattle.rule_base.specs.declared.program.Program.{Program}
use Rattle.rule_base.specs.declared.base.Refraction.{Refraction}
use Rattle.rule_base.specs.declared.base.Base.{Base}
use Rattle.rule_base.specs.Memory.{Memory}
use Rattle.rule_base.specs.Opening.{IsOpening}
use Rattle.rule_base.specs.State.{IsState, State, base_of, opening_base, start}
use Rattle.rule_base.specs.Run.{run}
use Rattle.rule_base.specs.Sound.{IsSound, sizes_of}
use Rattle.rule_base.specs.Base.{IsLawfulBase}

-- the base of an opening is lawful, under both refractions
abbrev pub OpeningsAreLawful : Type 0
OpeningsAreLawful = (program : Program) (elements : Memory) (refraction : Refraction) → IsOpening (sizes_of program.classes) elements
    → IsLawfulBase program (opening_base elements refraction)

-- a run from a lawful base begins in a state
abbrev pub LawfulBasesAreStates : Type 0
LawfulBasesAreStates = (program : Program) (base : Base) → IsLawfulBase program base → IsState (sizes_of program.classes) (start base)

-- the state after a run from a lawful base gives a lawful base again, as long as tags are left
abbrev pub RunsLeaveBases : Type 0
RunsLeaveBases = (program : Program) (base : Base) (choices : List Choice) (after : State) → IsSound program
    → IsLawfulBase program base → run program (start base) choices ≡ Some after → after.next < 2 ^ 63 → IsLawfulBase program (base_of after)
