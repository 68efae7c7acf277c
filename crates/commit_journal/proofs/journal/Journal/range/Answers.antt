-- The arrays of the range are ranges of the arrays.
use Rattle.std.proofs.Common.{◌≡◌, ◌+◌, ◌-◌, ◌≤◌, ◌∷◌, ◌∙◌, ap, arith, drop, length, map, rules, subst, sym, take}
use Rattle.std.specs.Prelude.{slice_index, slice_range}
use Rattle.std.proofs.lemmas.List.{length-drop, length-map, length-take}
use Rattle.commit_journal.specs.declared.firing.Firing.{Firing}
use Rattle.commit_journal.specs.Entries.{Recorded, born_in}
use Rattle.commit_journal.specs.Firings.{born_ends, entries_of, firing_before}
use Rattle.commit_journal.specs.Lists.{RiseTo}
use Rattle.commit_journal.proofs.CutLemmas.{begin-le, length-range, range_is}
use Rattle.commit_journal.proofs.EntryLemmas.{RiseTo-entries, born_in-drop, entries_of-range, within_firings}
use Rattle.commit_journal.proofs.RoomLemmas.{HaveRoom-none}
use Rattle.commit_journal.proofs.journal.Journal.range.Goals as goal

pub born_before-begin-requires : goal.born_before-begin-requires
born_before-begin-requires c =
    let inside = c.self.inside in
    let shape = c.self.invariant.0 in
    let firings = inside.firings.items in
    let from = c.args.from in
    let count = c.args.count in
    let here : from + count ≤ length firings = within_firings firings inside.tags.lists inside.gone.lists inside.newborns.elements inside.pieces.lists (from + count) shape.with_tags shape.with_gone shape.with_pieces (subst (λ (s : Recorded). from + count ≤ length s.entries) (sym c.self.view_is) c.requires) in
    let same : length c.as_slice-firings.result.now ≡ length firings = ap length c.as_slice-firings.ensures.value in
    omega (arith, here, same)

pub overflow_add-from : goal.overflow_add-from
overflow_add-from c =
    let inside = c.self.inside in
    let shape = c.self.invariant.0 in
    let firings = inside.firings.items in
    let from = c.args.from in
    let count = c.args.count in
    let here : from + count ≤ length firings = within_firings firings inside.tags.lists inside.gone.lists inside.newborns.elements inside.pieces.lists (from + count) shape.with_tags shape.with_gone shape.with_pieces (subst (λ (s : Recorded). from + count ≤ length s.entries) (sym c.self.view_is) c.requires) in
    let same : length c.as_slice-firings.result.now ≡ length firings = ap length c.as_slice-firings.ensures.value in
    search (rules, here, same)

pub born_before-end-requires : goal.born_before-end-requires
born_before-end-requires c =
    let inside = c.self.inside in
    let shape = c.self.invariant.0 in
    let firings = inside.firings.items in
    let from = c.args.from in
    let count = c.args.count in
    let here : from + count ≤ length firings = within_firings firings inside.tags.lists inside.gone.lists inside.newborns.elements inside.pieces.lists (from + count) shape.with_tags shape.with_gone shape.with_pieces (subst (λ (s : Recorded). from + count ≤ length s.entries) (sym c.self.view_is) c.requires) in
    let same : length c.as_slice-firings.result.now ≡ length firings = ap length c.as_slice-firings.ensures.value in
    omega (arith, here, same)

pub overflow_add-from-2 : goal.overflow_add-from-2
overflow_add-from-2 c =
    let inside = c.self.inside in
    let shape = c.self.invariant.0 in
    let firings = inside.firings.items in
    let from = c.args.from in
    let count = c.args.count in
    let here : from + count ≤ length firings = within_firings firings inside.tags.lists inside.gone.lists inside.newborns.elements inside.pieces.lists (from + count) shape.with_tags shape.with_gone shape.with_pieces (subst (λ (s : Recorded). from + count ≤ length s.entries) (sym c.self.view_is) c.requires) in
    let same : length c.as_slice-firings.result.now ≡ length firings = ap length c.as_slice-firings.ensures.value in
    search (rules, here, same)

pub part-requires : goal.part-requires
part-requires c =
    let inside = c.self.inside in
    let shape = c.self.invariant.0 in
    let firings = inside.firings.items in
    let from = c.args.from in
    let count = c.args.count in
    let here : from + count ≤ length firings = within_firings firings inside.tags.lists inside.gone.lists inside.newborns.elements inside.pieces.lists (from + count) shape.with_tags shape.with_gone shape.with_pieces (subst (λ (s : Recorded). from + count ≤ length s.entries) (sym c.self.view_is) c.requires) in
    let same : length c.as_slice-firings.result.now ≡ length firings = ap length c.as_slice-firings.ensures.value in
    (omega arith, omega (arith, here, same))

pub range-requires : goal.range-requires
range-requires c =
    let inside = c.self.inside in
    let shape = c.self.invariant.0 in
    let firings = inside.firings.items in
    let from = c.args.from in
    let count = c.args.count in
    let here : from + count ≤ length firings = within_firings firings inside.tags.lists inside.gone.lists inside.newborns.elements inside.pieces.lists (from + count) shape.with_tags shape.with_gone shape.with_pieces (subst (λ (s : Recorded). from + count ≤ length s.entries) (sym c.self.view_is) c.requires) in
    let same : length c.as_slice-firings.result.now ≡ length firings = ap length c.as_slice-firings.ensures.value in
    omega (arith, here, shape.with_tags)

pub range-requires-2 : goal.range-requires-2
range-requires-2 c =
    let inside = c.self.inside in
    let shape = c.self.invariant.0 in
    let firings = inside.firings.items in
    let from = c.args.from in
    let count = c.args.count in
    let here : from + count ≤ length firings = within_firings firings inside.tags.lists inside.gone.lists inside.newborns.elements inside.pieces.lists (from + count) shape.with_tags shape.with_gone shape.with_pieces (subst (λ (s : Recorded). from + count ≤ length s.entries) (sym c.self.view_is) c.requires) in
    let same : length c.as_slice-firings.result.now ≡ length firings = ap length c.as_slice-firings.ensures.value in
    omega (arith, here, shape.with_gone)

pub overflow_sub-end : goal.overflow_sub-end
overflow_sub-end c =
    let inside = c.self.inside in
    let shape = c.self.invariant.0 in
    let firings = inside.firings.items in
    let from = c.args.from in
    let count = c.args.count in
    let here : from + count ≤ length firings = within_firings firings inside.tags.lists inside.gone.lists inside.newborns.elements inside.pieces.lists (from + count) shape.with_tags shape.with_gone shape.with_pieces (subst (λ (s : Recorded). from + count ≤ length s.entries) (sym c.self.view_is) c.requires) in
    let same : length c.as_slice-firings.result.now ≡ length firings = ap length c.as_slice-firings.ensures.value in
    let begin = slice_index (0 ∷ born_ends firings) from in
    let end = slice_index (0 ∷ born_ends firings) (from + count) in
    let begin_is : c.born_before-begin.result ≡ begin = c.born_before-begin.ensures ∙ ap (λ fs. slice_index (0 ∷ born_ends fs) from) c.as_slice-firings.ensures.value in
    let end_is : c.born_before-end.result ≡ end = c.born_before-end.ensures ∙ ap (λ fs. slice_index (0 ∷ born_ends fs) (from + count)) c.as_slice-firings.ensures.value in
    let bounds = begin-le (born_ends firings) (length inside.newborns.elements) from count shape.with_born (omega (arith, here, length-map firings (λ (f : Firing). f.born))) in
    omega (arith, begin_is, end_is, bounds.0)

pub range-requires-3 : goal.range-requires-3
range-requires-3 c =
    let inside = c.self.inside in
    let shape = c.self.invariant.0 in
    let firings = inside.firings.items in
    let from = c.args.from in
    let count = c.args.count in
    let here : from + count ≤ length firings = within_firings firings inside.tags.lists inside.gone.lists inside.newborns.elements inside.pieces.lists (from + count) shape.with_tags shape.with_gone shape.with_pieces (subst (λ (s : Recorded). from + count ≤ length s.entries) (sym c.self.view_is) c.requires) in
    let same : length c.as_slice-firings.result.now ≡ length firings = ap length c.as_slice-firings.ensures.value in
    let begin = slice_index (0 ∷ born_ends firings) from in
    let end = slice_index (0 ∷ born_ends firings) (from + count) in
    let begin_is : c.born_before-begin.result ≡ begin = c.born_before-begin.ensures ∙ ap (λ fs. slice_index (0 ∷ born_ends fs) from) c.as_slice-firings.ensures.value in
    let end_is : c.born_before-end.result ≡ end = c.born_before-end.ensures ∙ ap (λ fs. slice_index (0 ∷ born_ends fs) (from + count)) c.as_slice-firings.ensures.value in
    let bounds = begin-le (born_ends firings) (length inside.newborns.elements) from count shape.with_born (omega (arith, here, length-map firings (λ (f : Firing). f.born))) in
    omega (arith, begin_is, end_is, bounds.0, bounds.1)

pub range-requires-4 : goal.range-requires-4
range-requires-4 c =
    let inside = c.self.inside in
    let shape = c.self.invariant.0 in
    let firings = inside.firings.items in
    let from = c.args.from in
    let count = c.args.count in
    let here : from + count ≤ length firings = within_firings firings inside.tags.lists inside.gone.lists inside.newborns.elements inside.pieces.lists (from + count) shape.with_tags shape.with_gone shape.with_pieces (subst (λ (s : Recorded). from + count ≤ length s.entries) (sym c.self.view_is) c.requires) in
    let same : length c.as_slice-firings.result.now ≡ length firings = ap length c.as_slice-firings.ensures.value in
    omega (arith, here, shape.with_pieces)

pub invariant_of-result : goal.invariant_of-result
invariant_of-result c =
    let inside = c.self.inside in
    let shape = c.self.invariant.0 in
    let firings = inside.firings.items in
    let from = c.args.from in
    let count = c.args.count in
    let here : from + count ≤ length firings = within_firings firings inside.tags.lists inside.gone.lists inside.newborns.elements inside.pieces.lists (from + count) shape.with_tags shape.with_gone shape.with_pieces (subst (λ (s : Recorded). from + count ≤ length s.entries) (sym c.self.view_is) c.requires) in
    let same : length c.as_slice-firings.result.now ≡ length firings = ap length c.as_slice-firings.ensures.value in
    let begin = slice_index (0 ∷ born_ends firings) from in
    let end = slice_index (0 ∷ born_ends firings) (from + count) in
    let begin_is : c.born_before-begin.result ≡ begin = c.born_before-begin.ensures ∙ ap (λ fs. slice_index (0 ∷ born_ends fs) from) c.as_slice-firings.ensures.value in
    let end_is : c.born_before-end.result ≡ end = c.born_before-end.ensures ∙ ap (λ fs. slice_index (0 ∷ born_ends fs) (from + count)) c.as_slice-firings.ensures.value in
    let bounds = begin-le (born_ends firings) (length inside.newborns.elements) from count shape.with_born (omega (arith, here, length-map firings (λ (f : Firing). f.born))) in
    let some : c.in_ok-firings_before.field-0.items ≡ map (firing_before begin) (take count (drop from firings)) =
    c.in_ok-firings_before.ensures
    ∙ ap (λ n. map (firing_before n) c.part.result.now) begin_is
    ∙ ap (map (firing_before begin)) (c.part.ensures ∙ ap (λ fs. slice_range fs from (from + count)) c.as_slice-firings.ensures.value ∙ range_is firings from count) in
    let elements : c.in_ok-range-3.field-0.elements ≡ slice_range inside.newborns.elements begin end =
    c.in_ok-range-3.ensures.elements
    ∙ ap (λ n. take (n - c.born_before-begin.result) (drop c.born_before-begin.result inside.newborns.elements)) end_is
    ∙ ap (λ n. take (end - n) (drop n inside.newborns.elements)) begin_is in
    let room = c.self.invariant.1 in
    let size : length c.in_ok-range-3.field-0.elements ≡ end - begin = ap length elements ∙ length-range inside.newborns.elements begin end bounds.1 in
    let of_firings : length c.in_ok-firings_before.field-0.items ≡ count = ap length some ∙ length-map (take count (drop from firings)) (firing_before begin) ∙ omega (arith, length-take count (drop from firings), length-drop from firings, here) in
    let of_tags : length c.in_ok-range.field-0.lists ≡ count = ap length c.in_ok-range.ensures ∙ omega (arith, length-take count (drop from inside.tags.lists), length-drop from inside.tags.lists, here, shape.with_tags) in
    let of_gone : length c.in_ok-range-2.field-0.lists ≡ count = ap length c.in_ok-range-2.ensures ∙ omega (arith, length-take count (drop from inside.gone.lists), length-drop from inside.gone.lists, here, shape.with_gone) in
    let of_pieces : length c.in_ok-range-4.field-0.lists ≡ count = ap length c.in_ok-range-4.ensures ∙ omega (arith, length-take count (drop from inside.pieces.lists), length-drop from inside.pieces.lists, here, shape.with_pieces) in (
      record {
        with_tags = omega (arith, of_tags, of_firings);
        with_gone = omega (arith, of_gone, of_firings);
        with_pieces = omega (arith, of_pieces, of_firings);
        with_born = subst (λ fs. RiseTo 0 (born_ends fs) (length c.in_ok-range-3.field-0.elements)) (sym some) (subst (RiseTo 0 (born_ends (map (firing_before begin) (take count (drop from firings))))) (sym size) (RiseTo-entries firings (length inside.newborns.elements) from count shape.with_born here));
      },
      HaveRoom-none c.none.result _ c.in_ok-range.field-0 c.in_ok-range-2.field-0 c.in_ok-range-3.field-0 c.in_ok-range-4.field-0 c.none.ensures
          (omega (arith, c.in_ok-range-3.ensures.next, room.of_tags)) (omega (arith, size, bounds.1, room.of_places)),
    )

pub returns-clause-entries : goal.returns-clause-entries
returns-clause-entries c =
    let inside = c.self.inside in
    let shape = c.self.invariant.0 in
    let firings = inside.firings.items in
    let from = c.args.from in
    let count = c.args.count in
    let here : from + count ≤ length firings = within_firings firings inside.tags.lists inside.gone.lists inside.newborns.elements inside.pieces.lists (from + count) shape.with_tags shape.with_gone shape.with_pieces (subst (λ (s : Recorded). from + count ≤ length s.entries) (sym c.self.view_is) c.requires) in
    let same : length c.as_slice-firings.result.now ≡ length firings = ap length c.as_slice-firings.ensures.value in
    let begin = slice_index (0 ∷ born_ends firings) from in
    let end = slice_index (0 ∷ born_ends firings) (from + count) in
    let begin_is : c.born_before-begin.result ≡ begin = c.born_before-begin.ensures ∙ ap (λ fs. slice_index (0 ∷ born_ends fs) from) c.as_slice-firings.ensures.value in
    let end_is : c.born_before-end.result ≡ end = c.born_before-end.ensures ∙ ap (λ fs. slice_index (0 ∷ born_ends fs) (from + count)) c.as_slice-firings.ensures.value in
    let bounds = begin-le (born_ends firings) (length inside.newborns.elements) from count shape.with_born (omega (arith, here, length-map firings (λ (f : Firing). f.born))) in
    let some : c.in_ok-firings_before.field-0.items ≡ map (firing_before begin) (take count (drop from firings)) =
    c.in_ok-firings_before.ensures
    ∙ ap (λ n. map (firing_before n) c.part.result.now) begin_is
    ∙ ap (map (firing_before begin)) (c.part.ensures ∙ ap (λ fs. slice_range fs from (from + count)) c.as_slice-firings.ensures.value ∙ range_is firings from count) in
    let elements : c.in_ok-range-3.field-0.elements ≡ slice_range inside.newborns.elements begin end =
    c.in_ok-range-3.ensures.elements
    ∙ ap (λ n. take (n - c.born_before-begin.result) (drop c.born_before-begin.result inside.newborns.elements)) end_is
    ∙ ap (λ n. take (end - n) (drop n inside.newborns.elements)) begin_is in
    subst (λ (s : Recorded). entries_of c.in_ok-firings_before.field-0.items c.in_ok-range.field-0.lists c.in_ok-range-2.field-0.lists c.in_ok-range-3.field-0.elements c.in_ok-range-4.field-0.lists ≡ take count (drop from s.entries)) c.self.view_is
    (ap (λ fs. entries_of fs c.in_ok-range.field-0.lists c.in_ok-range-2.field-0.lists c.in_ok-range-3.field-0.elements c.in_ok-range-4.field-0.lists) some
    ∙ ap (λ ts. entries_of (map (firing_before begin) (take count (drop from firings))) ts c.in_ok-range-2.field-0.lists c.in_ok-range-3.field-0.elements c.in_ok-range-4.field-0.lists) c.in_ok-range.ensures
    ∙ ap (λ gs. entries_of (map (firing_before begin) (take count (drop from firings))) (take count (drop from inside.tags.lists)) gs c.in_ok-range-3.field-0.elements c.in_ok-range-4.field-0.lists) c.in_ok-range-2.ensures
    ∙ ap (λ es. entries_of (map (firing_before begin) (take count (drop from firings))) (take count (drop from inside.tags.lists)) (take count (drop from inside.gone.lists)) es c.in_ok-range-4.field-0.lists) elements
    ∙ ap (λ ps. entries_of (map (firing_before begin) (take count (drop from firings))) (take count (drop from inside.tags.lists)) (take count (drop from inside.gone.lists)) (slice_range inside.newborns.elements begin end) ps) c.in_ok-range-4.ensures
    ∙ entries_of-range firings inside.tags.lists inside.gone.lists inside.newborns.elements inside.pieces.lists from count shape.with_born here)

pub returns-clause-next : goal.returns-clause-next
returns-clause-next c =
    let inside = c.self.inside in
    let shape = c.self.invariant.0 in
    let firings = inside.firings.items in
    let from = c.args.from in
    let count = c.args.count in
    let here : from + count ≤ length firings = within_firings firings inside.tags.lists inside.gone.lists inside.newborns.elements inside.pieces.lists (from + count) shape.with_tags shape.with_gone shape.with_pieces (subst (λ (s : Recorded). from + count ≤ length s.entries) (sym c.self.view_is) c.requires) in
    let same : length c.as_slice-firings.result.now ≡ length firings = ap length c.as_slice-firings.ensures.value in
    let begin = slice_index (0 ∷ born_ends firings) from in
    let end = slice_index (0 ∷ born_ends firings) (from + count) in
    let begin_is : c.born_before-begin.result ≡ begin = c.born_before-begin.ensures ∙ ap (λ fs. slice_index (0 ∷ born_ends fs) from) c.as_slice-firings.ensures.value in
    let end_is : c.born_before-end.result ≡ end = c.born_before-end.ensures ∙ ap (λ fs. slice_index (0 ∷ born_ends fs) (from + count)) c.as_slice-firings.ensures.value in
    let bounds = begin-le (born_ends firings) (length inside.newborns.elements) from count shape.with_born (omega (arith, here, length-map firings (λ (f : Firing). f.born))) in
    let behind : born_in (drop (from + count) (entries_of firings inside.tags.lists inside.gone.lists inside.newborns.elements inside.pieces.lists)) ≡ drop end inside.newborns.elements =
    born_in-drop (from + count) firings inside.tags.lists inside.gone.lists inside.newborns.elements inside.pieces.lists shape.with_tags shape.with_gone shape.with_pieces shape.with_born here in
    let place : c.born_before-begin.result + (c.born_before-end.result - c.born_before-begin.result) ≡ end = omega (arith, begin_is, end_is, bounds.0) in
    subst (λ (s : Recorded). c.in_ok-range-3.field-0.next + length (born_in (drop (from + count) s.entries)) ≡ s.next) c.self.view_is
    (ap (λ es. c.in_ok-range-3.field-0.next + length es) behind ∙ sym (ap (λ n. c.in_ok-range-3.field-0.next + length (drop n inside.newborns.elements)) place) ∙ c.in_ok-range-3.ensures.next)
