-- The condition elements that are left tell the same.
use Rattle.std.proofs.Common.{◌≡◌, drop}
use Rattle.interference.specs.Pins.{is_bound}
use Rattle.interference.proofs.given.is_bound.Given as goal

abbrev pub invariant-loop-cond : goal.invariant-loop-cond
invariant-loop-cond l = is_bound l.conds l.var ≡ is_bound (drop l.cond-index l.conds) l.var
