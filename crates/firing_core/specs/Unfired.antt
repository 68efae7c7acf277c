-- Which choices are fired, told by their last firing.
use Rattle.std.specs.Prelude.{List, Bool, false}
use Rattle.std.specs.Option.{option_map_or}
use Rattle.rule_base.specs.declared.base.Base.{Base}
use Rattle.rule_base.specs.declared.entry.Entry.{Entry}
use Rattle.rule_base.specs.declared.instantiation.Choice.{Choice}
use Rattle.rule_base.specs.declared.program.Program.{Program}
use Rattle.rule_base.specs.Memory.{Memory}
use Rattle.refraction_index.specs.Firings.{fired_at}
use Rattle.refraction_index.specs.StillFired.{is_still_fired}

-- whether a choice that matches in this memory is fired, where the run from the base has these entries
abbrev pub is_fired_by : Program → Base → Memory → List Entry → Choice → Bool
is_fired_by program base memory entries c =
    option_map_or (is_still_fired base.refraction program memory entries c) (fired_at base.fired entries c) false
