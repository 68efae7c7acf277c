-- One store has changed, or there is none.
use Rattle.std.proofs.Common.{ap, arith, length}
use Rattle.alpha_memory.specs.Stores.{cleaned}
use Rattle.alpha_memory.proofs.ChangeLemmas.{changed_in, with_change-past}
use Rattle.alpha_memory.proofs.DispatchedLemmas.{IsDispatched-set}
use Rattle.alpha_memory.proofs.memory.AlphaMemory.clean.Goals as goal

pub invariant_of-self : goal.invariant_of-self
invariant_of-self g c =
    let here = c.self.inside in
    IsDispatched-set here.stores.items c.args.number c.index_mut-store.result.now c.index_mut-store.result.now c.clean.new.self here.numbers.entries here.attributes.entries c.self.invariant c.clean.ensures.pattern c.index_mut-store.ensures.value

pub returns-then-number-len : goal.returns-then-number-len
returns-then-number-len g c =
    let here = c.self.inside in
    let change = cleaned c.args.hash (g.L.Living.lives c.args.living.now) in
    changed_in change c.args.number here.stores.items c.args.self.now c.index_mut-store.result.now c.clean.new.self c.clean.ensures.cleaned c.index_mut-store.ensures.value (omega (arith, c.if-number-len.true, c.len.ensures, here.stores.ok.0)) c.self.view_is

pub returns-else-number-len : goal.returns-else-number-len
returns-else-number-len g c =
    with_change-past (cleaned c.args.hash (g.L.Living.lives c.args.living.now)) c.args.number c.args.self.now
    (omega (arith, c.if-number-len.false, c.len.ensures, c.self.inside.stores.ok.0, ap length c.self.view_is))
