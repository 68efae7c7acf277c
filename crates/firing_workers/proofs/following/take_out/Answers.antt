-- An element has gone.
use Rattle.firing_workers.proofs.FollowingLemmas.{removal_is_followed}
use Rattle.firing_workers.proofs.following.take_out.Goals as goal

pub returns-clause-follows : goal.returns-clause-follows
returns-clause-follows c program s follows settled =
    let told = c.in_ok-remove.ensures in
    removal_is_followed program s c.args.part.now c.remove.new.self c.args.tag follows settled told.ok told.rules c.is_right.ensures.told told.refraction told.marks
