-- One store has changed, or there is none.
use Rattle.std.proofs.Common.{ap, arith, length}
use Rattle.std.proofs.lemmas.Result.{on_ok_weaker}
use Rattle.alpha_memory.specs.Stores.{packed}
use Rattle.alpha_memory.proofs.ChangeLemmas.{changed_in, with_change-past}
use Rattle.alpha_memory.proofs.DispatchedLemmas.{IsDispatched-set}
use Rattle.alpha_memory.proofs.memory.AlphaMemory.pack.Goals as goal

pub invariant_of-self : goal.invariant_of-self
invariant_of-self g c =
    let here = c.self.inside in
    IsDispatched-set here.stores.items c.args.number c.index_mut-store.result.now c.index_mut-store.result.now c.pack.new.self here.numbers.entries here.attributes.entries c.self.invariant c.pack.ensures.pattern c.index_mut-store.ensures.value

pub returns-then-number-len-clause-ok : goal.returns-then-number-len-clause-ok
returns-then-number-len-clause-ok g c =
    with_change-past (packed (g.L.Living.lives c.args.living.now)) c.args.number c.args.self.now
    (omega (arith, c.if-number-len.true, c.len.ensures, c.self.inside.stores.ok.0, ap length c.self.view_is))

pub returns-clause-ok : goal.returns-clause-ok
returns-clause-ok g c =
    let here = c.self.inside in
    let change = packed (g.L.Living.lives c.args.living.now) in
    on_ok_weaker c.pack.result
    (λ changed. changed_in change c.args.number here.stores.items c.args.self.now c.index_mut-store.result.now c.pack.new.self changed c.index_mut-store.ensures.value (omega (arith, c.if-number-len.false, c.len.ensures, here.stores.ok.0)) c.self.view_is)
    c.pack.ensures.ok
