-- The elements with the tags so far have gone.
use Rattle.std.proofs.Common.{take}
use Rattle.firing_workers.proofs.TakingLemmas.{HasTakenOut}
use Rattle.firing_workers.proofs.following.take_out_all.Given as goal

abbrev pub invariant-loop-tag : goal.invariant-loop-tag
invariant-loop-tag l = HasTakenOut (take l.tag-index l.tags) l.fn.part l.part
