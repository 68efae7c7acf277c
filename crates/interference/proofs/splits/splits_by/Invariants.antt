-- The splits so far.
use Rattle.std.proofs.Common.{◌≡◌, take}
use Rattle.interference.specs.Splits.{splits_by}
use Rattle.interference.proofs.splits.splits_by.Given as goal

abbrev pub invariant-loop-at : goal.invariant-loop-at
invariant-loop-at l = l.splits.items ≡ splits_by l.rules (take l.at l.classes)
