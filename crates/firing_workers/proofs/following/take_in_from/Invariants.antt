-- The elements with the tags so far have come.
use Rattle.firing_workers.proofs.TakingLemmas.{IsTakingIn}
use Rattle.firing_workers.proofs.following.take_in_from.Given as goal

abbrev pub invariant-loop-tag : goal.invariant-loop-tag
invariant-loop-tag g l = IsTakingIn l.core.state.memory l.fn.from l.tag l.fn.part l.part
