-- What has the tag goes with its place.
use Rattle.std.proofs.Common.{◌≡◌, [], ◌∷◌, ◌==◌, not, refl, Some, ap, ◌∙◌, subst, sym}
use Rattle.rule_base.specs.Step.{without}
use Rattle.firing_core.specs.Store.{IsPlaceOf, IsSameBesideMemory, Stored, at_places, came, memory_in}
use Rattle.firing_core.proofs.LaterLemmas.{has_number-some}
use Rattle.firing_core.proofs.StoredLemmas.{IsStored-fewer, Rises-stored, without_in, without_none}
use Rattle.firing_core.proofs.store.Store.remove.Goals as goal

pub invariant_of-self : goal.invariant_of-self
invariant_of-self g c =
    let inside = c.self.inside in
    IsStored-fewer inside.base inside.journal.entries inside.journal.next c.in-Some.place inside.memory c.remove.new.self c.self.invariant c.remove.ensures.came c.remove.ensures.places

pub returns-in-Some-clause-memory : goal.returns-in-Some-clause-memory
returns-in-Some-clause-memory g c =
    let inside = c.self.inside in
    let all = came inside.base inside.journal.entries in
    let s : Stored = record { base = inside.base; entries = inside.journal.entries; next = inside.journal.next; places = inside.memory.places; room = inside.journal.room; spare = inside.memory.spare } in
    let rises = Rises-stored inside.base inside.journal.entries inside.journal.next inside.memory c.self.invariant in
    let place = subst (λ (s : Stored). IsPlaceOf (came s.base s.entries) c.args.tag (Some c.in-Some.place)) (sym c.self.view_is) c.in-Some.ensures in
    subst (λ (s : Stored). at_places all c.remove.new.self.places ≡ without (memory_in s) (c.args.tag ∷ [])) c.self.view_is
    (ap (at_places all) c.remove.ensures.places ∙ without_in s c.args.tag c.in-Some.place rises place)

pub returns-in_default-clause-memory : goal.returns-in_default-clause-memory
returns-in_default-clause-memory g c = without_none c.args.self.now c.args.tag c.in_default.ensures

pub returns-in-Some-clause-others : goal.returns-in-Some-clause-others
returns-in-Some-clause-others g c =
    let inside = c.self.inside in
    let after : Stored = record { base = inside.base; entries = inside.journal.entries; next = inside.journal.next; places = c.remove.new.self.places; room = inside.journal.room; spare = c.remove.new.self.spare } in
    subst (λ (s : Stored). IsSameBesideMemory s after) c.self.view_is (record {
      base = refl;
      entries = refl;
      next = refl;
      room = refl;
      fewer = λ place has. has_number-some (λ p. not (p == c.in-Some.place)) inside.memory.places c.remove.new.self.places place c.remove.ensures.places has;
    })
