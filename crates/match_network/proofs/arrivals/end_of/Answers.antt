-- Tags are at least as far apart as their places.
use Rattle.std.proofs.Common.{arith}
use Rattle.rule_base.specs.Views.{element_in}
use Rattle.match_network.proofs.TagLemmas.{not_after, not_past}
use Rattle.match_network.proofs.arrivals.end_of.Goals as goal

pub returns-then-tag-first-clause-past : goal.returns-then-tag-first-clause-past
returns-then-tag-first-clause-past c place le =
    not_after c.args.elements.now c.args.tag 0 place (element_in c.at-first.result) c.requires c.at-first.ensures (omega (arith, c.if-tag-first.true)) le

pub returns-then-apart-len-clause-past : goal.returns-then-apart-len-clause-past
returns-then-apart-len-clause-past c place le =
    not_after c.args.elements.now c.args.tag 0 place (element_in c.at-first.result) c.requires c.at-first.ensures (omega (arith, c.if-tag-first.false, le)) (omega arith)

pub returns-else-apart-len-clause-past : goal.returns-else-apart-len-clause-past
returns-else-apart-len-clause-past c place le = not_past c.args.elements.now c.args.tag place (omega (arith, le, c.len-len.ensures.value))
