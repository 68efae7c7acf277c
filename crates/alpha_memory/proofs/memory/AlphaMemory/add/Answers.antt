-- The store is filed under the hash that leads to it.
use Rattle.std.proofs.Common.{arith}
use Rattle.alpha_memory.proofs.DispatchedLemmas.{IsDispatched-added}
use Rattle.alpha_memory.proofs.memory.AlphaMemory.add.Goals as goal

pub invariant_of-self-2 : goal.invariant_of-self-2
invariant_of-self-2 c =
    let here = c.self.inside in
    IsDispatched-added here.stores.items c.reserve.new.self.items c.push_reserved.new.self.items c.args.store here.numbers.entries c.push.new.self.entries here.attributes.entries c.list_dispatch.new.attributes.entries c.pattern.result.now c.pattern-2.result.now c.as_slice.result.now c.dispatch_of-dispatch.result c.dispatch_hash.result c.len-number.result c.self.invariant
    c.pattern.ensures c.pattern-2.ensures c.as_slice.ensures c.dispatch_of-dispatch.ensures c.in_ok-list_dispatch.ensures.ok c.dispatch_hash.ensures (omega (arith, c.len-number.ensures, here.stores.ok.0)) (omega (arith, c.if-number.false)) c.in_ok-push.ensures.ok c.reserve.ensures.items c.push_reserved.ensures.items
