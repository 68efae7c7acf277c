-- One element is taken in after another.
use Rattle.std.proofs.Common.{subst, sym, take}
use Rattle.rule_base.specs.Views.{element_in}
use Rattle.rule_base.specs.Memory.{Memory}
use Rattle.firing_workers.specs.Feeding.{HasTakenIn}
use Rattle.firing_workers.proofs.FeedingLemmas.{before_below, take_one, taken_one}
use Rattle.firing_workers.proofs.feeding.take_in_all.Goals as goal

pub take_in-requires : goal.take_in-requires
take_in-requires g c = c.loop-place.invariant.came c.at.result.tag (before_below c.args.elements.now c.loop-place.place (element_in c.at.result) c.requires.rising c.at.ensures)

pub loop-place-preserved : goal.loop-place-preserved
loop-place-preserved g c =
    let elements = c.args.elements.now in
    let place = c.loop-place.place in
    let e = element_in c.at.result in
    subst (λ (memory : Memory). HasTakenIn memory c.args.part.now c.take_in.new.part) (sym (take_one elements place e c.at.ensures))
    (taken_one (take place elements) e c.args.part.now c.loop-place.part c.take_in.new.part c.loop-place.invariant (before_below elements place e c.requires.rising c.at.ensures) c.in_ok-take_in.ensures.came c.in_ok-take_in.ensures.follows)
