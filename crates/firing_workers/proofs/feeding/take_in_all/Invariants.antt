-- The elements so far were taken in.
use Rattle.std.proofs.Common.{take}
use Rattle.firing_workers.specs.Feeding.{HasTakenIn}
use Rattle.firing_workers.proofs.feeding.take_in_all.Given as goal

abbrev pub invariant-loop-place : goal.invariant-loop-place
invariant-loop-place g l = HasTakenIn (take l.place l.elements) l.fn.part l.part
