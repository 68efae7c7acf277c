-- The most pinned attribute so far.
use Rattle.interference.specs.Counting.{IsMost}
use Rattle.interference.proofs.splits.split.Given as goal

abbrev pub invariant-loop-attr : goal.invariant-loop-attr
invariant-loop-attr l = IsMost l.rules l.class l.attr l.most l.split
