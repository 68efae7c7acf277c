-- Each turn goes on from the core before it, and there is none after the end.
use Rattle.firing_workers.proofs.FinishingLemmas.{fewer_left, gone_on-fires, gone_on-itself, gone_on-over}
use Rattle.firing_workers.proofs.finishing.run_on.Goals as goal

pub loop-turn-init : goal.loop-turn-init
loop-turn-init g c = record { gone_on = gone_on-itself _ c.requires.alone c.requires.none_given; follows = c.requires.follows }

pub loop-turn-smaller : goal.loop-turn-smaller
loop-turn-smaller g c = fewer_left _ _ (rw c.in-None.is at c.in_ok-turn.ensures.turn)

pub loop-turn-preserved : goal.loop-turn-preserved
loop-turn-preserved g c = record { gone_on = gone_on-fires _ _ _ c.loop-turn.invariant.gone_on (rw c.in-None.is at c.in_ok-turn.ensures.turn); follows = c.in_ok-turn.ensures.follows }

pub returns-in-Some : goal.returns-in-Some
returns-in-Some g c = gone_on-over _ _ _ _ c.loop-turn.invariant.gone_on (rw c.in-Some.is at c.in_ok-turn.ensures.turn)
