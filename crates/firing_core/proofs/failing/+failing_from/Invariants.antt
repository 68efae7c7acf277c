-- Each turn takes a condition element.
use Rattle.std.proofs.Common.{length}
use Rattle.firing_core.proofs.failing.+failing_from.Given as goal

abbrev pub decreases-failing_from : goal.decreases-failing_from
decreases-failing_from l = length l.conds.now
