-- One rule more is packed.
use Rattle.std.proofs.Common.{◌≤◌, arith, length}
use Rattle.match_network.proofs.PackingLemmas.{ArePackedTo-all, ArePackedTo-more, ArePackedTo-none, next_filed, repacked_at}
use Rattle.match_network.proofs.packing.pack_rules.Goals as goal

pub loop-number-init : goal.loop-number-init
loop-number-init c =
    let a = c.args.arrivals.now in
    ArePackedTo-none a.came a.places c.args.rules.now c.requires.filed

pub pack_rule-requires-clause-filed : goal.pack_rule-requires-clause-filed
pack_rule-requires-clause-filed c rule there =
    let a = c.args.arrivals.now in
    next_filed a.came a.places c.loop-number.number c.args.rules.now c.loop-number.rules rule c.requires.filed c.loop-number.invariant there

pub returns-in_err-pack_rule-clause-each : goal.returns-in_err-pack_rule-clause-each
returns-in_err-pack_rule-clause-each c =
    let a = c.args.arrivals.now in
    let l = c.loop-number in
    repacked_at a.came a.places l.number c.args.rules.now l.rules c.pack_rule.new.rules c.in_err-pack_rule.ensures.step l.invariant

pub loop-number-preserved : goal.loop-number-preserved
loop-number-preserved c =
    let a = c.args.arrivals.now in
    let l = c.loop-number in
    ArePackedTo-more a.came a.places l.number c.args.rules.now l.rules c.pack_rule.new.rules c.in_ok-pack_rule.ensures.step c.in_ok-pack_rule.ensures.ok l.invariant

pub returns-clause-ok : goal.returns-clause-ok
returns-clause-ok c =
    let a = c.args.arrivals.now in
    let l = c.loop-number in
    let all : length l.rules ≤ l.number = omega (arith, c.loop-number-test.false, l.invariant.each.count) in
    ArePackedTo-all a.came a.places l.number c.args.rules.now l.rules all l.invariant
