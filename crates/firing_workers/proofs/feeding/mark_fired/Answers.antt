-- The index has the choices that are fired.
use Rattle.std.proofs.lemmas.Result.{on_ok_weaker}
use Rattle.firing_workers.proofs.FeedingLemmas.{index_fired}
use Rattle.firing_workers.proofs.feeding.mark_fired.Goals as goal

pub returns : goal.returns
returns c = on_ok_weaker c.mark_rules.result (λ marked. index_fired c.in_ok-index.index c.args.fired.now c.args.part.now c.mark_rules.new.part c.in_ok-index.ensures.tells marked) c.mark_rules.ensures
