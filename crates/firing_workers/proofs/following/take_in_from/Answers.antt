-- One more tag is past, and then all are.
use Rattle.std.proofs.Common.{◌≡◌, arith, subst}
use Rattle.firing_core.proofs.EventLemmas.{IsState-lawful}
use Rattle.firing_workers.proofs.TakingLemmas.{IsTakingIn, taken_in-all, taking_in-none, taking_in-one}
use Rattle.firing_workers.proofs.following.take_in_from.Goals as goal

pub loop-tag-init : goal.loop-tag-init
loop-tag-init g c = taking_in-none c.args.core.now.state.memory c.args.from c.args.part.now c.requires.came

pub loop-tag-preserved : goal.loop-tag-preserved
loop-tag-preserved g c =
    let told = c.in_ok-take_in_one.ensures in
    taking_in-one c.args.core.now.state.memory c.args.from c.loop-tag.tag c.args.part.now c.loop-tag.part c.take_in_one.new.part (IsState-lawful c.args.core.now c.count-count.ensures.lawful).elements.rising
    c.loop-tag.invariant told.came told.follows

pub returns : goal.returns
returns g c =
    let s = c.args.core.now.state in
    let at_end : c.loop-tag.tag ≡ s.next = omega (arith, c.loop-tag-test.false, c.loop-tag.auto.tag, c.loop-tag.auto.tag-end, c.next-tag-end.ensures, c.requires.from) in
    taken_in-all s.memory c.args.from s.next c.args.part.now c.loop-tag.part (IsState-lawful c.args.core.now c.count-count.ensures.lawful).below
    (subst (λ tag. IsTakingIn s.memory c.args.from tag c.args.part.now c.loop-tag.part) at_end c.loop-tag.invariant)
