-- One store more is counted.
use Rattle.match_network.proofs.HeldLemmas.{links_more}
use Rattle.match_network.proofs.held.count_links.Goals as goal

pub loop-number-preserved : goal.loop-number-preserved
loop-number-preserved c =
    let l = c.loop-number in
    links_more l.count c.saturating_add-count.result c.links.result l.number c.args.alpha.now c.store.result.now c.store.ensures c.links.ensures c.saturating_add-count.ensures l.invariant
