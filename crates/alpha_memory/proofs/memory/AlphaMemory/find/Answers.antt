-- What leads to the store leads to one that asks alike.
use Rattle.std.proofs.Common.{subst, sym}
use Rattle.alpha_memory.specs.Stores.{Serves}
use Rattle.alpha_memory.proofs.DispatchedLemmas.{hash_found, not_served}
use Rattle.alpha_memory.proofs.memory.AlphaMemory.find.Goals as goal

pub returns-clause-none : goal.returns-clause-none
returns-clause-none c = λ none n serves.
    let wanted = c.args.wanted.now in
    let here = c.self.inside in
    let hash = hash_found wanted.pattern c.pattern-pattern.result.now c.as_slice.result.now c.dispatch_of.result c.dispatch_hash-hash.result c.pattern-pattern.ensures c.as_slice.ensures c.dispatch_of.ensures c.dispatch_hash-hash.ensures in
    let inside = subst (λ ss. Serves wanted ss n) (sym c.self.view_is) serves in
    let along = subst (λ ss. Serves wanted ss n) (sym c.as_slice-2.ensures.value) inside in
    not_served here.stores.items here.numbers.entries here.attributes.entries wanted c.dispatch_hash-hash.result c.bucket.result n c.self.invariant hash c.bucket.ensures.numbers inside
    (c.find_alike.ensures.none none n along)
