-- All flags are set.
use Rattle.std.proofs.Common.{ap, ◌∙◌, arith, length}
use Rattle.std.proofs.lemmas.List.FromFn.{length-range_with_len}
use Rattle.working_memory.proofs.KeptLemmas.{IsKept-new, places-new}
use Rattle.working_memory.proofs.memory.Memory.new.Goals as goal

pub invariant_of-result : goal.invariant_of-result
invariant_of-result c =
    let slots = c.in_ok-slots.slots in
    let here = c.in_ok-here.here in
    (IsKept-new slots.items here.items c.args.count c.in_ok-slots.ensures c.in_ok-here.ensures, omega (arith, slots.ok), omega (arith, here.ok))

pub returns-clause-places : goal.returns-clause-places
returns-clause-places c = places-new c.in_ok-slots.slots.items c.in_ok-here.here.items c.args.count c.in_ok-slots.ensures c.in_ok-here.ensures

pub returns-clause-slots : goal.returns-clause-slots
returns-clause-slots c = ap length c.in_ok-slots.ensures ∙ length-range_with_len 0 c.args.count
