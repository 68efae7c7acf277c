-- What goes, goes with its place, and what comes has the next places.
use Rattle.std.proofs.Common.{◌≡◌, ◌++◌, ap, ◌∙◌, arith, length, refl, subst, sym}
use Rattle.rule_base.specs.declared.instantiation.Choice.{Choice}
use Rattle.rule_base.specs.Effect.{removed_tags}
use Rattle.rule_base.specs.Step.{born, without}
use Rattle.firing_core.specs.Store.{IsSameBesideMemory, Stored, memory_in}
use Rattle.firing_core.proofs.LaterLemmas.{IsLater-commit}
use Rattle.firing_core.proofs.ChangeLemmas.{length-changes}
use Rattle.firing_core.proofs.StoredLemmas.{IsCommit, IsStored-commit, memory-commit}
use Rattle.firing_core.proofs.store.Store.commit.Goals as goal

pub invariant_of-self : goal.invariant_of-self
invariant_of-self g c =
    let inside = c.self.inside in
    let journal = inside.journal in
    let done = c.args.effect.now in
    let choice : Choice = record { rule = c.args.rule; tags = c.args.tags.now } in
    let is : IsCommit journal.next c.makes.result choice done journal.entries c.commit.new.self.entries inside.memory c.insert_all.new.memory = record {
      counted = sym (c.makes.ensures journal.next);
      entries' = c.commit.ensures.entries;
      places = c.insert_all.ensures.places;
      came = c.insert_all.ensures.came;
    } in
    IsStored-commit inside.base journal.next c.commit.new.self.next c.makes.result choice done journal.entries c.commit.new.self.entries inside.memory c.insert_all.new.memory c.self.invariant is c.commit.ensures.next

pub returns-clause-memory : goal.returns-clause-memory
returns-clause-memory g c =
    let inside = c.self.inside in
    let journal = inside.journal in
    let done = c.args.effect.now in
    let choice : Choice = record { rule = c.args.rule; tags = c.args.tags.now } in
    let is : IsCommit journal.next c.makes.result choice done journal.entries c.commit.new.self.entries inside.memory c.insert_all.new.memory = record {
      counted = sym (c.makes.ensures journal.next);
      entries' = c.commit.ensures.entries;
      places = c.insert_all.ensures.places;
      came = c.insert_all.ensures.came;
    } in
    let next_is : journal.next ≡ c.args.self.now.next = ap (λ (s : Stored). s.next) c.self.view_is ∙ c.remove_all.ensures.others.next in
    memory-commit inside.base journal.next c.makes.result choice done journal.entries c.commit.new.self.entries inside.memory c.insert_all.new.memory c.self.invariant is
    ∙ ap (λ (s : Stored). memory_in s ++ born journal.next done.changes) c.self.view_is
    ∙ ap (λ es. es ++ born journal.next done.changes) (c.remove_all.ensures.memory ∙ ap (without (memory_in c.args.self.now)) c.removed_tags.ensures)
    ∙ ap (λ n. without (memory_in c.args.self.now) (removed_tags done.changes) ++ born n done.changes) next_is

pub returns-clause-later : goal.returns-clause-later
returns-clause-later g c =
    let inside = c.self.inside in
    let journal = inside.journal in
    let done = c.args.effect.now in
    let choice : Choice = record { rule = c.args.rule; tags = c.args.tags.now } in
    let between : Stored = record { base = inside.base; entries = journal.entries; next = journal.next; places = inside.memory.places; room = journal.room; spare = inside.memory.spare } in
    let after = c.insert_all.new.memory in
    let new : Stored = record { base = inside.base; entries = c.commit.new.self.entries; next = c.commit.new.self.next; places = after.places; room = c.commit.new.self.room; spare = after.spare } in
    let is : IsCommit journal.next c.makes.result choice done journal.entries c.commit.new.self.entries inside.memory after = record {
      counted = sym (c.makes.ensures journal.next);
      entries' = c.commit.ensures.entries;
      places = c.insert_all.ensures.places;
      came = c.insert_all.ensures.came;
    } in
    let same : IsSameBesideMemory c.args.self.now between = subst (IsSameBesideMemory c.args.self.now) (sym c.self.view_is) c.remove_all.ensures.others in
    IsLater-commit c.args.self.now between new journal.next c.makes.result choice done inside.memory after same c.self.invariant refl is refl refl

pub returns-clause-steps : goal.returns-clause-steps
returns-clause-steps g c =
    let changes = c.args.effect.now.changes in
    let next = c.args.self.now.next in
    omega (arith, c.remove_all.ensures.steps, c.insert_all.ensures.steps, c.commit.ensures.steps, ap length c.removed_tags.ensures, c.makes.ensures next, length-changes next changes)
