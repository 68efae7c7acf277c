-- What a text says of the choices of its machine, over names and values alone: which match, and what their firing does.
use Rattle.std.specs.Prelude.{◌≡◌, List, Bool, true, false, Option, Result, is_ok, slice_get, option_map, option_and_then}
use Rattle.std.specs.Option.{option_map_or}
use Rattle.std.specs.Result.{result_ok}
use Rattle.rule_base.specs.declared.instantiation.Choice.{Choice}
use Rattle.rule_base.specs.declared.program.Class.{Class}
use Rattle.rule_base.specs.declared.program.Program.{Program}
use Rattle.rule_base.specs.Memory.{Memory, elements_at}
use Rattle.rule_base.specs.Effect.{Effect, Failure}
use Rattle.rule_base.specs.Step.{matches, effect_of}
use Rattle.rule_checker.specs.NamedBindings.{NamedValues}
use Rattle.rule_checker.specs.WrittenRules.{WrittenRule}
use Rattle.rule_checker.specs.WrittenMatch.{written_match, AreOfClasses}
use Rattle.rule_checker.specs.WrittenEffect.{written_effect}

-- whether the choice matches: there is a written rule with its number, and it matches with its tags
abbrev pub matches_written : List Class → List WrittenRule → Memory → Choice → Bool
matches_written classes rules memory c = option_map_or (λ (written : WrittenRule). is_ok (written_match classes written c.tags memory)) (slice_get rules c.rule) false

-- the effect of a written rule that matches with the choice's tags, or its first failing action
abbrev pub effect_of_match : List Class → Memory → Choice → WrittenRule → Option (Result Effect Failure)
effect_of_match classes memory c written =
    option_map (λ (bindings : NamedValues). written_effect classes written (elements_at memory c.tags) bindings) (result_ok (written_match classes written c.tags memory))

-- the effect of a choice that matches
abbrev pub effect_written : List Class → List WrittenRule → Memory → Choice → Option (Result Effect Failure)
effect_written classes rules memory c = option_and_then (effect_of_match classes memory c) (slice_get rules c.rule)

-- in every memory for its classes the choices of a program that match are those of the text, and so is what they do
pub record FiresWhatIsWritten (rules : List WrittenRule) (program : Program) : Type 0 where
  pub same_matches : (memory : Memory) (c : Choice) → AreOfClasses program.classes memory → matches program memory c ≡ matches_written program.classes rules memory c
  pub same_effects : (memory : Memory) (c : Choice) → AreOfClasses program.classes memory → matches program memory c ≡ true
      → effect_of program memory c ≡ effect_written program.classes rules memory c
