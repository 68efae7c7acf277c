-- What has a tag below the base's next is of the base, and what was born lies at the distance of its tag from that.
use Rattle.std.proofs.Common.{◌≡◌, ◌+◌, ◌-◌, ◌<◌, ◌≤◌, None, Some, length, ◌∙◌, subst, sym, arith}
use Rattle.std.proofs.lemmas.Bool.Decides.{nat_tests}
use Rattle.commit_journal.specs.Entries.{born_in}
use Rattle.firing_core.specs.Store.{IsPlaceOf, Stored, came}
use Rattle.firing_core.proofs.StoreLemmas.{IsPlaceOf-base, absent-unborn, place-born}
use Rattle.firing_core.proofs.store.Store.place_of.Goals as goal

pub returns-then-tag-self : goal.returns-then-tag-self
returns-then-tag-self c =
    let base = c.self.inside.base in
    let entries = c.self.inside.journal.entries in
    let lt : c.args.tag < base.next = grind (arith, nat_tests) in
    subst (λ (s : Stored). IsPlaceOf (came s.base s.entries) c.args.tag c.place_of.result) c.self.view_is
    (IsPlaceOf-base base.elements (born_in entries) base.next c.args.tag c.place_of.result c.place_of.ensures c.self.invariant.born lt)

pub returns-then-behind-made : goal.returns-then-behind-made
returns-then-behind-made c =
    let base = c.self.inside.base in
    let entries = c.self.inside.journal.entries in
    let place = c.len-before.result + (c.args.tag - base.next) in
    let counted : c.came.result ≡ length base.elements + length (born_in entries) = c.came.ensures.value ∙ c.self.invariant.counted in
    let lt : c.args.tag - base.next < length (born_in entries) = grind (arith, nat_tests, counted, c.len-before.ensures.value) in
    let tag_is : base.next + (c.args.tag - base.next) ≡ c.args.tag = grind (arith, nat_tests) in
    let found = place-born base.elements (born_in entries) base.next (c.args.tag - base.next) c.self.invariant.born lt in
    subst (λ (s : Stored). IsPlaceOf (came s.base s.entries) c.args.tag (Some place)) c.self.view_is
    (subst (λ n. IsPlaceOf (came base entries) c.args.tag (Some (n + (c.args.tag - base.next)))) (sym c.len-before.ensures.value) (found.0, found.1, found.2 ∙ tag_is))

pub returns-else-behind-made : goal.returns-else-behind-made
returns-else-behind-made c =
    let base = c.self.inside.base in
    let entries = c.self.inside.journal.entries in
    let counted : c.came.result ≡ length base.elements + length (born_in entries) = c.came.ensures.value ∙ c.self.invariant.counted in
    let le : base.next + length (born_in entries) ≤ c.args.tag = grind (arith, nat_tests, counted, c.len-before.ensures.value) in
    subst (λ (s : Stored). IsPlaceOf (came s.base s.entries) c.args.tag None) c.self.view_is
    (absent-unborn base.elements (born_in entries) base.next c.args.tag c.self.invariant.given c.self.invariant.born le)
