-- The first living row is told, and what lives behind it is left.
use Rattle.std.proofs.Common.{ap, arith, length}
use Rattle.match_network.proofs.FullLemmas.{first_told}
use Rattle.match_network.proofs.full.FullRowsIterator.next.Goals as goal

pub returns-clause-steps : goal.returns-clause-steps
returns-clause-steps c =
    let inside = c.self.inside in
    first_told inside.arrivals.now.places inside.rows.now.rows c.args.self.now inside.at c.next_living-number.result c.at.result.now c.self.view_is c.next_living-number.ensures.same c.at.ensures.row c.next_living-number.ensures.living

pub returns-clause-goes : goal.returns-clause-goes
returns-clause-goes c =
    let inside = c.self.inside in
    let step = first_told inside.arrivals.now.places inside.rows.now.rows c.args.self.now inside.at c.next_living-number.result c.at.result.now c.self.view_is c.next_living-number.ensures.same c.at.ensures.row c.next_living-number.ensures.living in
    omega (arith, ap length step)
