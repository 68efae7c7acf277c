-- The core has gone on from the one that was given, and the part follows it.
use Rattle.firing_workers.specs.Following.{Follows}
use Rattle.firing_workers.specs.Turn.{HasGoneOn}
use Rattle.firing_workers.proofs.FinishingLemmas.{left_of}
use Rattle.firing_workers.proofs.finishing.run_on.Given as goal

abbrev pub invariant-loop-turn : goal.invariant-loop-turn
invariant-loop-turn g l = record {
  gone_on : HasGoneOn l.fn.core l.core;
  follows : Follows l.core.program l.core.state l.part;
}

abbrev pub decreases-loop-turn : goal.decreases-loop-turn
decreases-loop-turn g l = left_of l.core
