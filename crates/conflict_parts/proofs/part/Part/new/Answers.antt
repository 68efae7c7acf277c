-- All full matches stand, open and in the queue.
use Rattle.conflict_parts.proofs.PartLemmas.{part_new}
use Rattle.conflict_parts.proofs.part.Part.new.Goals as goal

pub invariant_of-result : goal.invariant_of-result
invariant_of-result c =
    part_new c.in_ok-network.network c.in_ok-standings.standings c.open_all.new.standings c.len.result c.new-queue.result.items c.open_all.new.queue.items c.new-3.result
    c.in_ok-standings.ensures c.len.ensures c.in_ok-open_all.ensures.opened c.in_ok-open_all.ensures.all
