-- Each element of the base has its place there.
use Rattle.firing_core.proofs.StoredLemmas.{IsStored-new, memory-new}
use Rattle.firing_core.proofs.store.Store.new.Goals as goal

pub invariant_of-result : goal.invariant_of-result
invariant_of-result c =
    let journal = c.new-journal in
    let memory = c.in_ok-memory in
    IsStored-new c.args.base journal.result.entries journal.result.next c.len.result memory.memory c.requires.rising c.requires.given journal.ensures.entries journal.ensures.next c.len.ensures.value memory.ensures.places memory.ensures.came

pub returns-clause-memory : goal.returns-clause-memory
returns-clause-memory c = memory-new c.args.base c.new-journal.result.entries c.len.result c.in_ok-memory.memory.places c.new-journal.ensures.entries c.len.ensures.value c.in_ok-memory.ensures.places
