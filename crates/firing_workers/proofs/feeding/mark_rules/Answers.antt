-- The rows of each rule are marked, one after another.
use Rattle.std.proofs.Common.{ap, arith, length, ◌∙◌}
use Rattle.match_network.specs.Network.{Network}
use Rattle.firing_workers.proofs.FeedingLemmas.{rules_all, rules_more}
use Rattle.firing_workers.proofs.feeding.mark_rules.Goals as goal

pub loop-rule-preserved : goal.loop-rule-preserved
loop-rule-preserved c = record {
  marked = rules_more c.args.index.now c.loop-rule.index c.loop-rule.rule c.args.part.now c.loop-rule.part _ c.loop-rule.invariant.index c.loop-rule.invariant.marked c.in_ok-mark_rows.ensures.marked;
  index = c.mark_rows.ensures.index ∙ c.loop-rule.invariant.index;
}

pub returns : goal.returns
returns c =
    rules_all c.args.index.now c.loop-rule.rule c.args.part.now c.loop-rule.part
    (omega (arith, c.loop-rule-test.false, c.len-rule-end.ensures, ap (λ (n : Network). length n.rules) c.network.ensures.network)) c.loop-rule.invariant.marked
