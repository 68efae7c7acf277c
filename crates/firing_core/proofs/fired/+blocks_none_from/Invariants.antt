-- Each turn takes a condition element.
use Rattle.std.proofs.Common.{length}
use Rattle.firing_core.proofs.fired.+blocks_none_from.Given as goal

abbrev pub decreases-blocks_none_from : goal.decreases-blocks_none_from
decreases-blocks_none_from l = length l.conds.now
