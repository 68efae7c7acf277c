-- The laws of a core: whatever happens keeps it lawful, and only adds to its journal.
use Rattle.std.specs.Prelude.{◌≡◌, ◌<◌, ◌^◌, List, [], true, None, Some, ◌↔◌}
use Rattle.rule_base.specs.declared.instantiation.Candidate.{Candidate}
use Rattle.rule_base.specs.declared.instantiation.Choice.{Choice}
use Rattle.rule_base.specs.declared.program.Program.{Program}
use Rattle.rule_base.specs.Fits.{Fits, is_fitting}
use Rattle.rule_base.specs.Base.{IsLawfulBase}
use Rattle.rule_base.specs.State.{base_of}
use Rattle.firing_core.specs.declared.claims.Event.{Event}
use Rattle.firing_core.specs.CoreState.{CoreState, ended}
use Rattle.firing_core.specs.Clear.{IsClear}
use Rattle.firing_core.specs.Lawful.{IsLawful}
use Rattle.firing_core.specs.Refusals.{busy_lock}
use Rattle.firing_core.specs.FinishedRun.{GoesOn}
use Rattle.firing_core.specs.FiredChoices.{AreFired}
use Rattle.firing_core.specs.Events.{after_firing, fold, without_claims}

-- whatever happens to a lawful core, it stays lawful
abbrev pub EventsKeepLawful : Type 0
EventsKeepLawful = (k after : CoreState) (events : List Event) → IsLawful k → fold k events ≡ Some after → IsLawful after

-- it is of the same run, and its journal has the old one as a prefix
abbrev pub EventsGoOn : Type 0
EventsGoOn = (k after : CoreState) (events : List Event) → IsLawful k → fold k events ≡ Some after → GoesOn k after

-- a lawful core without claims that hasn't ended may fire a choice at once
abbrev pub FiringKeepsLawful : Type 0
FiringKeepsLawful = (k after : CoreState) (c : Choice) → IsLawful k → k.claims ≡ [] → ended k ≡ None → after_firing k c ≡ Some after → IsLawful after

-- and any may drop all its claims
abbrev pub DroppingKeepsLawful : Type 0
DroppingKeepsLawful = (k : CoreState) → IsLawful k → IsLawful (without_claims k)

-- what an event asks of a candidate is that it fits
abbrev pub FittingIsDecided : Type 0
FittingIsDecided = (program : Program) (candidate : Candidate) → (is_fitting program candidate ≡ true) ↔ Fits program candidate

-- a run may go on from where a lawful core has come, as long as tags are left: its memory, its next tag and the choices
-- that are fired, in their order, make a lawful base
abbrev pub FiredMakeBases : Type 0
FiredMakeBases = (k : CoreState) (choices : List Choice) → IsLawful k → k.state.next < 2 ^ 63 → AreFired k.state choices
    → IsLawfulBase k.program (record (base_of k.state) { fired = choices })

-- no lock is busy for a candidate exactly where no claim that stands is in its way
abbrev pub LocksTellClashes : Type 0
LocksTellClashes = (k : CoreState) (candidate : Candidate) → IsLawful k → (busy_lock k candidate ≡ None) ↔ IsClear k candidate
