-- What lies before the end of the base is of the base, and what lies behind it was born at that distance.
use Rattle.std.proofs.Common.{◌≡◌, ◌+◌, ◌-◌, ◌<◌, ◌≤◌, None, Some, length, slice_get, option_map, ◌∙◌, ap, subst, sym, arith}
use Rattle.std.proofs.lemmas.Bool.Decides.{nat_tests}
use Rattle.commit_journal.specs.Entries.{born_in}
use Rattle.rule_base.specs.Memory.{element_at}
use Rattle.rule_base.specs.Views.{element_in}
use Rattle.firing_core.specs.Store.{Stored, came}
use Rattle.firing_core.proofs.StoreLemmas.{born-place, get_left, nothing_past}
use Rattle.firing_core.proofs.store.Store.at.Goals as goal

pub returns-then-place-before : goal.returns-then-place-before
returns-then-place-before c =
    let base = c.self.inside.base in
    let entries = c.self.inside.journal.entries in
    subst (λ (s : Stored). Some (element_in c.at.result) ≡ slice_get (came s.base s.entries) c.args.place) c.self.view_is
    (sym (get_left base.elements (born_in entries) c.args.place (element_in c.at.result) c.at.ensures))

pub returns-then-place-came : goal.returns-then-place-came
returns-then-place-came c =
    let base = c.self.inside.base in
    let entries = c.self.inside.journal.entries in
    let counted : c.came-came.result ≡ length base.elements + length (born_in entries) = c.came-came.ensures.value ∙ c.self.invariant.counted in
    let before : c.len-before.result ≡ length base.elements = c.len-before.ensures.value in
    let lt : c.args.place - length base.elements < length (born_in entries) = grind (arith, nat_tests, counted, before) in
    let place_is : length base.elements + (c.args.place - length base.elements) ≡ c.args.place = grind (arith, nat_tests, before) in
    let tag_is : c.next.result - (c.came-came.result - c.args.place) ≡ base.next + (c.args.place - length base.elements) = grind (arith, nat_tests, counted, before, c.next.ensures, c.self.invariant.next_is) in
    let found = c.born.ensures ∙ ap (element_at (born_in entries)) tag_is ∙ born-place base.elements (born_in entries) base.next (c.args.place - length base.elements) c.self.invariant.born lt ∙ ap (slice_get (came base entries)) place_is in
    subst (λ (s : Stored). option_map element_in c.born.result ≡ slice_get (came s.base s.entries) c.args.place) c.self.view_is found

pub returns-else-place-came : goal.returns-else-place-came
returns-else-place-came c =
    let base = c.self.inside.base in
    let entries = c.self.inside.journal.entries in
    let counted : c.came-came.result ≡ length base.elements + length (born_in entries) = c.came-came.ensures.value ∙ c.self.invariant.counted in
    let le : length base.elements + length (born_in entries) ≤ c.args.place = grind (arith, nat_tests, counted) in
    subst (λ (s : Stored). None ≡ slice_get (came s.base s.entries) c.args.place) c.self.view_is (sym (nothing_past base.elements (born_in entries) c.args.place le))

pub overflow_sub-next : goal.overflow_sub-next
overflow_sub-next c =
    let counted : c.came-came.result ≡ length c.self.inside.base.elements + length (born_in c.self.inside.journal.entries) = c.came-came.ensures.value ∙ c.self.invariant.counted in
    grind (arith, nat_tests, counted, c.len-before.ensures.value, c.next.ensures, c.self.invariant.next_is)
