-- A turn fires what it has prepared, or leaves the core as it is.
use Rattle.std.proofs.Common.{refl}
use Rattle.firing_workers.proofs.finishing.take_turn.Goals as goal

pub fire-requires-clause-may : goal.fire-requires-clause-may
fire-requires-clause-may g c = rw c.in-Fire.is at c.in_ok-id.ensures.turn

pub returns-in_ok-fire-in-Fire-clause-turn : goal.returns-in_ok-fire-in-Fire-clause-turn
returns-in_ok-fire-in-Fire-clause-turn g c =
    let turn = rw c.in-Fire.is at c.in_ok-id.ensures.turn in
    record { going = turn.going; within = turn.within; choice = _; fires = c.in_ok-fire-in-Fire.ensures.fires }

pub returns-in-End-clause-turn : goal.returns-in-End-clause-turn
returns-in-End-clause-turn g c =
    let turn = rw c.in-End.is at c.in_ok-id.ensures.turn in
    record { same = refl; lawful = c.count-count.ensures.lawful; may = turn }
