-- The flag of the place goes, and with it the place.
use Rattle.std.proofs.Common.{◌≡◌, ◌==◌, not, true, ap, ◌∙◌, arith, sym}
use Rattle.std.specs.List.{filter}
use Rattle.working_memory.specs.Memory.{Places, is_here}
use Rattle.working_memory.proofs.PlaceLemmas.{filter-absent}
use Rattle.working_memory.proofs.KeptLemmas.{IsKept-removed, flag_set, is_here-within, places-removed}
use Rattle.working_memory.proofs.memory.Memory.remove.Goals as goal

pub returns-then-not-has-clause-places : goal.returns-then-not-has-clause-places
returns-then-not-has-clause-places g c = sym (filter-absent c.args.place c.args.self.now.places (sym c.has.ensures ∙ c.if-not-has.true))

pub index_mut-requires : goal.index_mut-requires
index_mut-requires g c =
    let inside = c.self.inside in
    let here = inside.here.items in
    let set : is_here here c.args.place ≡ true = flag_set inside.slots.items here inside.living c.args.place c.args.self.now.places c.has.result c.self.invariant.0 (ap (λ (m : Places). m.places) c.self.view_is) c.has.ensures c.if-not-has.false in
    omega (arith, is_here-within here c.args.place set, inside.here.ok.0)

pub invariant_of-self : goal.invariant_of-self
invariant_of-self g c =
    let inside = c.self.inside in
    let here = inside.here.items in
    let set : is_here here c.args.place ≡ true = flag_set inside.slots.items here inside.living c.args.place c.args.self.now.places c.has.result c.self.invariant.0 (ap (λ (m : Places). m.places) c.self.view_is) c.has.ensures c.if-not-has.false in
    (IsKept-removed inside.slots.items here inside.living c.args.place c.self.invariant.0 set, c.self.invariant.1, c.self.invariant.2)

pub returns-clause-places : goal.returns-clause-places
returns-clause-places g c =
    let inside = c.self.inside in
    let here = inside.here.items in
    let set : is_here here c.args.place ≡ true = flag_set inside.slots.items here inside.living c.args.place c.args.self.now.places c.has.result c.self.invariant.0 (ap (λ (m : Places). m.places) c.self.view_is) c.has.ensures c.if-not-has.false in
    places-removed inside.slots.items here c.args.place (is_here-within here c.args.place set)
    ∙ ap (λ (m : Places). filter (λ p. not (p == c.args.place)) m.places) c.self.view_is
