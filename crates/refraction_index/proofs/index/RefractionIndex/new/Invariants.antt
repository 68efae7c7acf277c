-- The numbers tell of the choices so far.
use Rattle.std.proofs.Common.{◌≡◌, take}
use Rattle.std.specs.List.{list_any}
use Rattle.rule_base.specs.Chains.{only_if}
use Rattle.rule_base.specs.State.{same_choice}
use Rattle.rule_base.specs.declared.instantiation.Choice.{Choice}
use Rattle.refraction_index.specs.Numbers.{number_of}
use Rattle.refraction_index.proofs.index.RefractionIndex.new.Given as goal

abbrev pub invariant-loop-choice : goal.invariant-loop-choice
invariant-loop-choice l = (c : Choice) → number_of l.numbers c ≡ only_if (list_any (same_choice c) (take l.choice-index l.before)) 0
