-- An element is in working memory where its place is.
use Rattle.std.proofs.Common.{None, cond, slice_get, ap, ◌∙◌, subst, sym}
use Rattle.rule_base.specs.Memory.{Rises, tags_of}
use Rattle.firing_core.specs.Store.{Stored, came}
use Rattle.firing_core.proofs.StoredLemmas.{Rises-stored, absent_in, found_in}
use Rattle.firing_core.proofs.store.Store.element.Goals.{in_default-via-in-Some+else-has, in_default-via-in_default}
use Rattle.rule_base.specs.Numbers.{has_number}
use Rattle.firing_core.proofs.store.Store.element.Goals as goal

pub returns-in-Some : goal.returns-in-Some
returns-in-Some c =
    let s = c.args.self.now in
    let inside = c.self.inside in
    let rises = subst (λ (s : Stored). Rises (tags_of (came s.base s.entries))) c.self.view_is (Rises-stored inside.base inside.journal.entries inside.journal.next inside.memory c.self.invariant) in
    let told = c.has.ensures ∙ ap (λ (s : Stored). has_number s.places c.in-Some.place) c.self.view_is in
    let found = found_in s c.args.tag c.in-Some.place c.has.result rises c.in-Some.ensures told in
    c.at.ensures ∙ sym (found ∙ ap (λ b. cond b (slice_get (came s.base s.entries) c.in-Some.place) None) c.if-has.true)

pub returns-in_default : goal.returns-in_default
returns-in_default c =
    let s = c.args.self.now in
    let inside = c.self.inside in
    let rises = subst (λ (s : Stored). Rises (tags_of (came s.base s.entries))) c.self.view_is (Rises-stored inside.base inside.journal.entries inside.journal.next inside.memory c.self.invariant) in
    elim c.in_default.branch [
      | in_default-via-in-Some+else-has w ↦
          let told = w.has.ensures ∙ ap (λ (s : Stored). has_number s.places w.in-Some.place) c.self.view_is in
          let found = found_in s c.args.tag w.in-Some.place w.has.result rises w.in-Some.ensures told in
          sym (found ∙ ap (λ b. cond b (slice_get (came s.base s.entries) w.in-Some.place) None) w.if-has.false)
      | in_default-via-in_default w ↦ sym (absent_in s c.args.tag w.in_default.ensures)
    ]
