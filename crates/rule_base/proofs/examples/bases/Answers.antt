-- The rows compute once distinctness does.
use Rattle.std.proofs.Common.{rules}
use Rattle.std.specs.List.{IsDistinct}
use Rattle.rule_base.proofs.examples.bases.Goals as goal

pub returns-clause-lawful : goal.returns-clause-lawful
unfolding IsDistinct
returns-clause-lawful c = search rules

pub returns-clause-unlawful : goal.returns-clause-unlawful
unfolding IsDistinct
returns-clause-unlawful c = search rules
