-- No element has the tag.
use Rattle.conflict_parts.proofs.RowLemmas.{none_has}
use Rattle.match_network.specs.Arrivals.{has_tag}
use Rattle.conflict_parts.proofs.part.wake_all.Goals as goal

pub returns-in-None-clause-woken : goal.returns-in-None-clause-woken
returns-in-None-clause-woken c rule row place there has waits at =
    let a = c.args.network.now.arrivals in
    none_has (has_tag a.came c.args.tag) a.places place c.in-None.ensures.found there has
