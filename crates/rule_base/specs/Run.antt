-- Runs of the recognise-act machine, which may fire any choice that it may fire.
use Rattle.std.specs.Prelude.{List, [], ◌∷◌, Option, Some, option_and_then}
use Rattle.rule_base.specs.declared.instantiation.Choice.{Choice}
use Rattle.rule_base.specs.declared.program.Program.{Program}
use Rattle.rule_base.specs.State.{State}
use Rattle.rule_base.specs.Step.{step}

-- the state after firing these choices one after another, where each may be fired
abbrev pub run : Program → State → List Choice → Option State
run program s [] = Some s
run program s (c ∷ choices) = option_and_then (λ after. run program after choices) (step program s c)
