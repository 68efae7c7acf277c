-- One slot more.
use Rattle.std.proofs.Common.{◌++◌, append-nil, ap, ◌∙◌, sym}
use Rattle.std.proofs.lemmas.List.{take_all}
use Rattle.firing_core.specs.Store.{living_at}
use Rattle.firing_core.proofs.StoredLemmas.{living_next}
use Rattle.firing_core.proofs.store.Store.add_to.Goals as goal

pub loop-place-init : goal.loop-place-init
loop-place-init c = sym (append-nil c.args.elements.now)

pub loop-place-preserved : goal.loop-place-preserved
loop-place-preserved c =
    c.in_ok-add_living.ensures
    ∙ living_next c.args.self.now c.args.elements.now c.loop-place.elements c.slots-place-items.result.now c.loop-place.place-index c.loop-place-test.true c.loop-place.invariant

pub returns : goal.returns
returns c =
    let s = c.args.self.now in
    let slots = c.slots-place-items.result.now in
    c.loop-place.invariant
    ∙ ap (λ ps. c.args.elements.now ++ living_at s ps) (take_all c.loop-place.place-index slots c.loop-place-test.false)
    ∙ ap (λ es. c.args.elements.now ++ es) c.slots-place-items.ensures
