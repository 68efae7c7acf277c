-- Of the slots, those in working memory are its places.
use Rattle.std.proofs.Common.{◌≡◌, ap, subst}
use Rattle.firing_core.specs.Store.{Stored, at_places, came, living_at, memory_in}
use Rattle.firing_core.proofs.store.Store.slots.Goals as goal

pub returns : goal.returns
returns c =
    let inside = c.self.inside in
    subst (λ (s : Stored). living_at s c.slots.result.now ≡ memory_in s) c.self.view_is (ap (at_places (came inside.base inside.journal.entries)) c.slots.ensures.held)
