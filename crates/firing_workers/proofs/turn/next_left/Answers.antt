-- A candidate of a part that follows is left to fire, and looking for it changes no mark.
use Rattle.firing_workers.proofs.TurnLemmas.{Follows-same, told_next}
use Rattle.firing_workers.proofs.turn.next_left.Goals as goal

pub returns-clause-next : goal.returns-clause-next
returns-clause-next g c =
    let k = c.args.core.now in
    let after = c.next.new.self in
    let ensures = c.next.ensures in
    let follows = Follows-same k.program k.state c.args.part.now after ensures.network ensures.refraction ensures.marks c.requires in
    told_next k after c.next.result follows ensures.some ensures.none

pub returns-clause-follows : goal.returns-clause-follows
returns-clause-follows g c =
    let k = c.args.core.now in
    let ensures = c.next.ensures in
    Follows-same k.program k.state c.args.part.now c.next.new.self ensures.network ensures.refraction ensures.marks c.requires
