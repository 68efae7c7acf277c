-- One store more is noted.
use Rattle.std.proofs.Common.{◌<◌, arith, length}
use Rattle.match_network.proofs.AskerLemmas.{AreNoted-more}
use Rattle.match_network.proofs.askers.note_all.Goals as goal

pub loop-condition-preserved : goal.loop-condition-preserved
loop-condition-preserved c =
    let l = c.loop-condition in
    AreNoted-more c.args.rule c.args.askers.now.items c.args.stores.now l.condition l.askers.items c.note.new.askers.items
    (let lt : l.condition < length c.args.stores.now = omega (arith, c.loop-condition-test.true) in lt) c.in_ok-note.ensures l.invariant
