-- Laws of steps and runs: a run goes on where another ended, its journal tells it, and each step keeps the state one.
use Rattle.std.specs.Prelude.{◌≡◌, ◌+◌, ◌≤◌, List, ◌∷◌, ◌++◌, true, false, Some, option_and_then}
use Rattle.std.specs.List.{AllByRecursion, IsDistinct}
use Rattle.rule_base.specs.declared.instantiation.Choice.{Choice}
use Rattle.rule_base.specs.declared.program.Program.{Program}
use Rattle.rule_base.specs.declared.base.Refraction.TheVariants.{Once, Renewed}
use Rattle.rule_base.specs.State.{IsState, State, choices_of, has_fired, same_choice}
use Rattle.rule_base.specs.Step.{is_listed, step}
use Rattle.rule_base.specs.Run.{run}
use Rattle.rule_base.specs.Sound.{IsSound, sizes_of}
use Rattle.rule_base.specs.Base.{StillMatch}

-- firing choices and then others is one run
abbrev pub RunsGoOn : Type 0
RunsGoOn = (program : Program) (s : State) (first then' : List Choice)
    → run program s (first ++ then') ≡ option_and_then (λ after. run program after then') (run program s first)

-- the journal tells a run: after the entries that were there it has one for each choice, in order
abbrev pub RunsAreTold : Type 0
RunsAreTold = (program : Program) (s : State) (choices : List Choice) (after : State)
    → run program s choices ≡ Some after → choices_of after.entries ≡ choices_of s.entries ++ choices

-- a run keeps the refraction
abbrev pub RunsKeepRefraction : Type 0
RunsKeepRefraction = (program : Program) (s : State) (choices : List Choice) (after : State)
    → run program s choices ≡ Some after → after.refraction ≡ s.refraction

-- what has fired stays so, what fires is added in order, and nothing fires twice: no two of the choices are the same,
-- and none had fired before
pub record FiresOnce (s : State) (choices : List Choice) (after : State) : Type 0 where
  pub fired : after.fired ≡ s.fired ++ choices
  pub stays : (c : Choice) → has_fired s c ≡ true → has_fired after c ≡ true
  pub apart : IsDistinct same_choice choices
  pub new : AllByRecursion (λ (c : Choice). has_fired s c ≡ false) choices

-- under `Once`
abbrev pub RunsFireOnce : Type 0
RunsFireOnce = (program : Program) (s : State) (choices : List Choice) (after : State)
    → s.refraction ≡ Once → run program s choices ≡ Some after → FiresOnce s choices after

-- under `Renewed` the fired choices go on matching; after a step they do so whatever was before it
abbrev pub RunsKeepMatching : Type 0
RunsKeepMatching = (program : Program) (s : State) (choices : List Choice) (after : State) → StillMatch s.refraction program s.memory s.fired
    → run program s choices ≡ Some after → StillMatch after.refraction program after.memory after.fired

-- the choice fired, and after its own firing or one of those between it was not in the conflict set
pub record HasStopped (program : Program) (s : State) (c : Choice) (between : List Choice) : Type 0 where
  pub front : List Choice
  pub back : List Choice
  pub parts : between ≡ front ++ back
  pub there : State
  pub ran : run program s (c ∷ front) ≡ Some there
  pub stopped : is_listed program there.memory c ≡ false

-- under `Renewed` a choice that fires twice has stopped matching between the two
abbrev pub RunsFireAnew : Type 0
RunsFireAnew = (program : Program) (s : State) (c : Choice) (between later : List Choice) (after : State)
    → s.refraction ≡ Renewed → run program s (c ∷ (between ++ c ∷ later)) ≡ Some after → HasStopped program s c between

-- a step of a sound program leads from state to state
abbrev pub StepsKeepStates : Type 0
StepsKeepStates = (program : Program) (s : State) (c : Choice) (after : State) → IsSound program
    → IsState (sizes_of program.classes) s → step program s c ≡ Some after → IsState (sizes_of program.classes) after

-- and so does a run
abbrev pub RunsKeepStates : Type 0
RunsKeepStates = (program : Program) (s : State) (choices : List Choice) (after : State) → IsSound program
    → IsState (sizes_of program.classes) s → run program s choices ≡ Some after → IsState (sizes_of program.classes) after

-- a step of a sound program gives at most 64 time tags
abbrev pub StepsGiveFewTags : Type 0
StepsGiveFewTags = (program : Program) (s : State) (c : Choice) (after : State) → IsSound program
    → IsState (sizes_of program.classes) s → step program s c ≡ Some after → after.next ≤ s.next + 64
