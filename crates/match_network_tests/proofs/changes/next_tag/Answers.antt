-- The tag is above that of the element that came last.
use Rattle.std.proofs.Common.{◌≡◌, ◌+◌, ◌-◌, length, arith}
use Rattle.rule_base.specs.Views.{element_in}
use Rattle.match_network_tests.proofs.TagLemmas.{all_below-last}
use Rattle.match_network_tests.proofs.changes.next_tag.Goals as goal

pub returns : goal.returns
returns c =
    let long : length c.args.arrivals.now.came ≡ c.len-len.result - 1 + 1 = omega (arith, c.len-len.ensures.value, c.if-len-eq0.false) in
    all_below-last (c.len-len.result - 1) c.args.arrivals.now.came (element_in c.at-last.result) c.len-len.ensures.tags long c.at-last.ensures
