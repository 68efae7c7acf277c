-- Those that waited for the element are woken, and then it goes.
use Rattle.conflict_parts.proofs.PartLemmas.{part_woken, part_without}
use Rattle.conflict_parts.proofs.part.Part.remove.Goals as goal

pub invariant_of-self : goal.invariant_of-self
invariant_of-self c =
    let inside = c.self.inside in
    part_woken inside.network inside.standings c.wake_all.new.standings inside.queue.items c.wake_all.new.queue.items inside.waiters c.self.invariant c.in_err-wake_all.ensures.opened c.in_err-wake_all.ensures.lengths

pub invariant_of-self-2 : goal.invariant_of-self-2
invariant_of-self-2 c =
    let inside = c.self.inside in
    let woken = part_woken inside.network inside.standings c.wake_all.new.standings inside.queue.items c.wake_all.new.queue.items inside.waiters c.self.invariant c.in_ok-wake_all.ensures.opened c.in_ok-wake_all.ensures.lengths in
    part_without inside.network c.remove.new.self c.args.tag c.wake_all.new.standings c.wake_all.new.queue.items inside.waiters c.remove.ensures.arrivals c.remove.ensures.rules c.in_ok-wake_all.ensures.woken woken
