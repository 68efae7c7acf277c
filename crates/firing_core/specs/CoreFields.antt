-- How a core's fields give what contracts see of it.
use Rattle.std.specs.Prelude.{◌≡◌, ◌≤◌, ◌*◌, List, [], length, take}
use Rattle.std.specs.List.{AllByRecursion}
use Rattle.std.specs.Option.{option_map_or}
use Rattle.rule_base.specs.declared.base.Base.{Base}
use Rattle.rule_base.specs.declared.entry.Entry.{Entry}
use Rattle.rule_base.specs.declared.instantiation.Choice.{Choice}
use Rattle.rule_base.specs.declared.program.Program.{Program}
use Rattle.rule_base.specs.Fits.{Fits}
use Rattle.rule_base.specs.Memory.{HasSize}
use Rattle.rule_base.specs.Sound.{sizes_of}
use Rattle.rule_base.specs.State.{State, choices_of, start}
use Rattle.rule_base.specs.Run.{run}
use Rattle.commit_journal.specs.Entries.{born_in}
use Rattle.commit_journal.specs.ProgramRoom.{room_of}
use Rattle.commit_journal.specs.Room.{FitsIn, room_times}
use Rattle.refraction_index.specs.Firings.{Index, Tells}
use Rattle.firing_core.specs.declared.machine.Core.TheInside.{Inside}
use Rattle.interference.specs.Splits.{splits_of}
use Rattle.standing_claims.specs.declared.claim.Claim.{Claim}
use Rattle.firing_core.specs.CoreState.{CoreState}
use Rattle.firing_core.specs.Refusals.{claimed_footprints}
use Rattle.firing_core.specs.Grouped.{IsGroupingOf}
use Rattle.firing_core.specs.Kept.{IsKept}
use Rattle.firing_core.specs.Store.{memory_in}

-- what is fired where the run from the base with these entries has led
abbrev pub fired_in : Program → Base → List Entry → List Choice
fired_in program base entries = option_map_or (λ (s : State). s.fired) (run program (start base) (choices_of entries)) []

-- the state that the fields hold
abbrev pub state_in : Inside → State
state_in core = record {
  memory = memory_in core.store;
  next = core.store.next;
  fired = fired_in core.program.value core.store.base core.store.entries;
  entries = core.store.entries;
  halted = core.halted;
  refraction = core.store.base.refraction;
}

-- the core that the fields hold
abbrev pub core_in : Inside → CoreState
core_in core = record {
  program = core.program.value;
  base = core.store.base;
  budget = core.budget;
  state = state_in core;
  claims = core.claims.claims;
  given = core.claims.given;
  fault = core.fault;
}

-- the index has taken in some of the entries, and tells of them
pub record IsIndexOf (before : List Choice) (entries : List Entry) (index : Index) : Type 0 where
  pub within : index.seen ≤ length entries
  pub tells : Tells before (take index.seen entries) index

-- that core is lawful, and ready for its next firing
pub record HoldsKept (core : Inside) : Type 0 where
  pub kept : IsKept (core_in core)
  pub index : IsIndexOf core.store.base.fired core.store.entries core.index
  -- what was grouped of the store is in its groups
  pub grouped : IsGroupingOf core.grouped core.store
  pub splits : core.splits ≡ splits_of core.program.value
  -- each claim stands with its footprint
  pub footprints : core.claims.footprints ≡ claimed_footprints (core_in core)
  -- each claim is of a candidate of the program
  pub fitting : AllByRecursion (λ (claim : Claim). Fits core.program.value claim.candidate) core.claims.claims
  -- there is room for the commit of each claim that stands
  pub most : core.most ≡ room_of core.program.value
  pub room : FitsIn (room_times (length core.claims.claims) core.most) core.store.room
  pub spare : length core.claims.claims * core.most.elements ≤ core.store.spare
  -- each element that was ever made has a size
  pub born : AllByRecursion (HasSize (sizes_of core.program.value.classes)) (born_in core.store.entries)
