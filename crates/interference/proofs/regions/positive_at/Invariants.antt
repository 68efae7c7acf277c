-- The condition elements that are left have it at the place that is left.
use Rattle.std.proofs.Common.{◌≡◌, drop, slice_get}
use Rattle.interference.specs.Given.{positive}
use Rattle.interference.proofs.regions.positive_at.Given as goal

abbrev pub invariant-loop-cond : goal.invariant-loop-cond
invariant-loop-cond l = slice_get (positive l.conds) l.place ≡ slice_get (positive (drop l.cond-index l.conds)) l.left
