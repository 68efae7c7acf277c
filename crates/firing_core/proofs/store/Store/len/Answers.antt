-- There are as many elements as places.
use Rattle.std.proofs.Common.{◌≡◌, length, ◌∙◌, subst, sym}
use Rattle.firing_core.specs.Store.{Stored, memory_in}
use Rattle.firing_core.proofs.StoredLemmas.{length-stored}
use Rattle.firing_core.proofs.store.Store.len.Goals as goal

pub returns : goal.returns
returns c =
    let inside = c.self.inside in
    subst (λ (s : Stored). c.len.result ≡ length (memory_in s)) c.self.view_is
    (c.len.ensures ∙ sym (length-stored inside.base inside.journal.entries inside.journal.next inside.memory c.self.invariant))
