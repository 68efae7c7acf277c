-- Whether what has fired is fired still, told by its last firing.
use Rattle.std.specs.Prelude.{◌≡◌, ℕ, ◌-◌, List, ◌++◌, Bool, true, false, Some, drop}
use Rattle.std.specs.Option.{option_map_or}
use Rattle.rule_base.specs.declared.base.Base.{Base}
use Rattle.rule_base.specs.declared.base.Refraction.{Refraction}
use Rattle.rule_base.specs.declared.base.Refraction.TheVariants.{Once, Renewed}
use Rattle.rule_base.specs.declared.entry.Entry.{Entry}
use Rattle.rule_base.specs.declared.instantiation.Choice.{Choice}
use Rattle.rule_base.specs.declared.program.Program.{Program}
use Rattle.rule_base.specs.Base.{IsLawfulBase}
use Rattle.rule_base.specs.Memory.{Memory}
use Rattle.rule_base.specs.Run.{run}
use Rattle.rule_base.specs.Sound.{IsSound}
use Rattle.rule_base.specs.State.{State, choices_of, has_fired, start}
use Rattle.rule_base.specs.Step.{matches}
use Rattle.commit_journal.specs.Entries.{born_in}
use Rattle.refraction_index.specs.Firings.{fired_at}

-- whether a choice that had last fired when there were so many entries is fired still: under `Once` it is for good; under
-- `Renewed` it is where its rule matches also beside the elements that were born since, those of the entry that fired it
-- among them
abbrev pub is_still_fired : Refraction → Program → Memory → List Entry → Choice → ℕ → Bool
is_still_fired Once program memory entries c n = true
is_still_fired Renewed program memory entries c n = matches program (memory ++ born_in (drop (n - 1) entries)) c

-- of a choice that matches, the last firing tells whether it is fired
abbrev pub LastFiringTells : Type 0
LastFiringTells = (program : Program) (base : Base) (s : State) (c : Choice) → IsSound program → IsLawfulBase program base
    → run program (start base) (choices_of s.entries) ≡ Some s → matches program s.memory c ≡ true
    → has_fired s c ≡ option_map_or (is_still_fired base.refraction program s.memory s.entries c) (fired_at base.fired s.entries c) false
