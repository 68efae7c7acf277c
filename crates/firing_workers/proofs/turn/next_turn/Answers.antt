-- The choice that lies prepared is that of the candidate that was found.
use Rattle.firing_workers.proofs.turn.next_turn.Goals as goal

pub evaluated-requires-clause-of : goal.evaluated-requires-clause-of
evaluated-requires-clause-of g c =
    let found = rw c.in-Some.is at c.in_ok-id-in-None.ensures.next in
    record { candidate = found.0; is = c.in_ok-set_choice-in-Some.ensures found.0.row found.0.lives.is }
