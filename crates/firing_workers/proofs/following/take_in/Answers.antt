-- An element has come.
use Rattle.rule_base.specs.Views.{element_in}
use Rattle.firing_workers.proofs.ArrivalLemmas.{arrival_is_followed}
use Rattle.firing_workers.proofs.following.take_in.Goals as goal

pub returns-clause-follows : goal.returns-clause-follows
returns-clause-follows g c program s follows late =
    let told = c.in_ok-add.ensures in
    arrival_is_followed program s c.args.part.now c.add.new.self (element_in c.args.element) follows late c.is_right.ensures.right c.is_right.ensures.levels c.is_right-2.ensures.levels
    told.ok told.joins told.grows c.is_right-2.ensures.told told.refraction c.network-network.ensures.marks told.marks
