-- One rule more is compiled.
use Rattle.std.proofs.Common.{◌≡◌, ◌<◌, arith, get_or, length, rules}
use Rattle.match_network.proofs.ComeLemmas.{slice_get-here}
use Rattle.match_network.proofs.SetLemmas.{AreCompiledTo-more}
use Rattle.match_network.proofs.rule_set.RuleSet.new.Goals as goal

pub loop-number-preserved : goal.loop-number-preserved
loop-number-preserved c =
    let l = c.loop-number in
    let this = c.index-rules-number.result in
    let lt : l.number < length c.args.rules.now = omega (arith, c.loop-number-test.true) in
    let is : this ≡ get_or c.args.rules.now l.number this = search rules in
    record {
      compiled = AreCompiledTo-more c.args.rules.now l.number l.set.rules.items c.push.new.self.rules.items this (slice_get-here c.args.rules.now l.number this lt is) c.in_ok-push.ensures.added l.invariant.compiled;
      right = c.in_ok-push.ensures.right;
      bare = c.in_ok-push.ensures.bare;
    }
