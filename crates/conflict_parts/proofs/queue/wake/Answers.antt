-- Nobody is left.
use Rattle.conflict_parts.proofs.QueueLemmas.{AreLeft-none}
use Rattle.conflict_parts.proofs.queue.wake.Goals as goal

pub returns-clause-woken : goal.returns-clause-woken
returns-clause-woken c = AreLeft-none c.args.place c.args.waiters.now c.loop-id.standings c.loop-id.id-iterator c.in-None.ensures.steps.0 c.loop-id.invariant.left
