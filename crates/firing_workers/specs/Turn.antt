-- One turn of a run: a full match of the part that is to fire, or the ending.
use Rattle.std.specs.Prelude.{◌≡◌, ◌<◌, [], true, Option, None, Some, Ok}
use Rattle.rule_base.specs.declared.entry.Ending.{Ending}
use Rattle.rule_base.specs.declared.instantiation.Choice.{Choice}
use Rattle.rule_base.specs.Effect.{Effect}
use Rattle.rule_base.specs.Ending.{IsEnding, is_quiet}
use Rattle.rule_base.specs.State.{count}
use Rattle.rule_base.specs.Step.{effect_of, may_fire}
use Rattle.conflict_parts.specs.declared.standing.RowId.{RowId}
use Rattle.conflict_parts.specs.Choices.{choice_at}
use Rattle.conflict_parts.specs.Part.{IsCandidate, Part}
use Rattle.firing_core.specs.CoreState.{CoreState, ended}
use Rattle.firing_core.specs.FinishedRun.{GoesOn, TellsKeptFault}
use Rattle.firing_core.specs.declared.claims.How.{How}
use Rattle.firing_core.specs.Firing.{Fires, IsLeft}
use Rattle.firing_core.specs.Lawful.{IsLawful}
use Rattle.firing_workers.specs.declared.turn.Turn.{Turn}
use Rattle.firing_workers.specs.declared.turn.Turn.TheVariants.{End, Fire}

-- the choice is that of a candidate of the part
pub record IsChoiceOf (part : Part) (id : RowId) (c : Choice) : Type 0 where
  pub candidate : IsCandidate part.network part.standings id
  pub is : c ≡ choice_at part.network id.rule candidate.row

-- a candidate of the part whose choice is left to fire, or none where the run is quiet
abbrev pub TellsNext : CoreState → Part → Option RowId → Type 0
TellsNext k part None = is_quiet k.program k.state ≡ true
TellsNext k part (Some id) = (candidate : IsCandidate part.network part.standings id) × IsLeft k (choice_at part.network id.rule candidate.row)

-- the core hasn't ended and may fire the candidate's choice, with this effect
pub record MayFire (k : CoreState) (part : Part) (c : Choice) (done : Effect) (id : RowId) : Type 0 where
  pub lawful : IsLawful k
  pub going : ended k ≡ None
  pub within : count k.state < k.budget
  pub may : may_fire k.program k.state c ≡ true
  pub effect : effect_of k.program k.state.memory c ≡ Some (Ok done)
  pub of : IsChoiceOf part id c

-- the core may end so
pub record MayEnd (k : CoreState) (end : Ending) : Type 0 where
  pub ending : IsEnding k.program k.budget k.state end
  pub fault : TellsKeptFault k end

-- what comes next: a candidate that may fire, with its choice and its effect, or an ending
abbrev pub IsTurn : CoreState → Part → Choice → Effect → Turn → Type 0
IsTurn k part c done (Fire id) = MayFire k part c done id
IsTurn k part c done (End end) = MayEnd k end

-- a core that had not ended and was within its budget has fired a choice
pub record HasFired (old new : CoreState) : Type 0 where
  pub going : ended old ≡ None
  pub within : count old.state < old.budget
  pub choice : Choice
  pub fires : Fires old new choice

-- a core is as before, and may end so
pub record IsOver (old new : CoreState) (end : Ending) : Type 0 where
  pub same : new ≡ old
  pub lawful : IsLawful new
  pub may : MayEnd new end

-- what a turn makes of a core
abbrev pub HasTurned : CoreState → CoreState → Option Ending → Type 0
HasTurned old new None = HasFired old new
HasTurned old new (Some end) = IsOver old new end

-- a core has gone on from a first one, without claims, and is that one where it had ended before
pub record HasGoneOn (first k : CoreState) : Type 0 where
  pub goes_on : GoesOn first k
  pub alone : (k.claims ≡ []) × (k.given ≡ 0)
  pub fault : k.fault ≡ first.fault
  pub ended_before : (how : How) → ended first ≡ Some how → k ≡ first

-- and may end so
pub record HasFinished (first k : CoreState) (end : Ending) : Type 0 where
  pub gone_on : HasGoneOn first k
  pub lawful : IsLawful k
  pub may : MayEnd k end
