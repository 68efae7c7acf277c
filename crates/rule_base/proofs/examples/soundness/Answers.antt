-- The rows compute once distinctness does.
use Rattle.std.proofs.Common.{rules}
use Rattle.std.specs.List.{IsDistinct}
use Rattle.rule_base.proofs.examples.soundness.Goals as goal

pub returns-clause-sound : goal.returns-clause-sound
unfolding IsDistinct
returns-clause-sound c = search rules

pub returns-clause-unsound : goal.returns-clause-unsound
unfolding IsDistinct
returns-clause-unsound c = search rules
