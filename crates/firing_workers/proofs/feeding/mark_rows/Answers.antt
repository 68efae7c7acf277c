-- Each row of the rule is marked, one after another.
use Rattle.std.proofs.Common.{ap, arith, slice_get, sym, ◌∙◌}
use Rattle.match_network.specs.Network.{Network}
use Rattle.firing_workers.proofs.FeedingLemmas.{rows_all, rows_more}
use Rattle.firing_workers.proofs.feeding.mark_rows.Goals as goal

pub loop-row-preserved : goal.loop-row-preserved
loop-row-preserved c = record {
  marked = rows_more c.args.index.now c.loop-row.index c.args.rule c.loop-row.row c.args.part.now c.loop-row.part _ c.loop-row.invariant.index c.loop-row.invariant.marked c.in_ok-mark_row.ensures.marked;
  index = c.mark_row.ensures.index ∙ c.loop-row.invariant.index;
}

pub returns-clause-marked : goal.returns-clause-marked
returns-clause-marked c = rows_all c.args.index.now c.args.rule c.loop-row.row c.args.part.now c.loop-row.part c.rule.result.now
    (ap (λ (n : Network). slice_get n.rules c.args.rule) (sym c.network.ensures.network) ∙ c.rule.ensures.rule) (omega (arith, c.loop-row-test.false, c.whole_count-row-end.ensures.count)) c.loop-row.invariant.marked
