-- What lives at one of the places is of what lives at all of them.
use Rattle.std.proofs.Common.{slice_index_or, subst, sym}
use Rattle.firing_core.specs.Matching.{MayFilter}
use Rattle.firing_core.specs.Store.{living}
use Rattle.firing_core.proofs.LivingLemmas.{MayFilter-slot}
use Rattle.firing_core.proofs.negation.accepts_some_at.Goals as goal

pub accepts_living-requires : goal.accepts_living-requires
accepts_living-requires c =
    let s = c.args.store.now in
    let places = c.args.places.now in
    subst (MayFilter c.args.cond.now (living s (slice_index_or places c.loop-place.place-index 0))) (sym c.loop-place.invariant.kept)
    (MayFilter-slot c.args.cond.now s c.args.binds.now places c.loop-place.place-index c.loop-place-test.true c.requires)
