-- The condition elements and the elements that are left give the same.
use Rattle.std.proofs.Common.{◌≡◌, ◌≤◌, drop, length}
use Rattle.interference.specs.Given.{given}
use Rattle.interference.proofs.given.given.Given as goal

abbrev pub invariant-loop-cond : goal.invariant-loop-cond
invariant-loop-cond l = record {
  same : given l.conds l.elements l.var ≡ given (drop l.cond-index l.conds) (drop l.at l.elements) l.var;
  within : l.at ≤ length l.elements;
}
