-- The laws are lemmas about the definitions.
use Rattle.rule_base.proofs.RunLemmas.{FiresOnce-run, StillMatch-run, HasStopped-run}
use Rattle.rule_base.proofs.laws.refraction_holds.Goals as goal

pub returns-clause-once : goal.returns-clause-once
returns-clause-once c = λ program s choices after once ran. FiresOnce-run program s choices after ran once

pub returns-clause-matching : goal.returns-clause-matching
returns-clause-matching c = λ program s choices after matching ran. StillMatch-run program s choices after ran matching

pub returns-clause-anew : goal.returns-clause-anew
returns-clause-anew c = HasStopped-run
