-- A dead row is passed over, and a living one is told.
use Rattle.std.proofs.Common.{◌∙◌, sym}
use Rattle.match_network.proofs.FullLemmas.{left-dead}
use Rattle.match_network.proofs.full.next_living.Goals as goal

pub loop-number-preserved : goal.loop-number-preserved
loop-number-preserved c =
    let l = c.loop-number in
    left-dead c.args.arrivals.now.places c.args.rows.now.rows l.number c.at.result.now c.at.ensures.row (sym c.have.ensures ∙ c.if-have.false) ∙ l.invariant
