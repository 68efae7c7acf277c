-- The entry has the parts at its place.
use Rattle.std.proofs.Common.{◌≡◌, ◌-◌, ◌<◌, ◌∷◌, ◌∙◌, Some, ap, arith, drop, length, rules, slice_get, subst, suc, sym, take}
use Rattle.std.specs.Prelude.{slice_index}
use Rattle.std.proofs.lemmas.Option.{slice_get_read}
use Rattle.commit_journal.specs.Entries.{Recorded, entry_with}
use Rattle.commit_journal.specs.Firings.{born_ends}
use Rattle.commit_journal.proofs.EntryLemmas.{born_ends-rise, slice_get-entry, within_firings}
use Rattle.commit_journal.proofs.journal.Journal.entry.Goals as goal

pub index-firing-requires : goal.index-firing-requires
index-firing-requires c =
    let inside = c.self.inside in
    let shape = c.self.invariant.0 in
    let here : c.args.place < length inside.firings.items = within_firings inside.firings.items inside.tags.lists inside.gone.lists inside.newborns.elements inside.pieces.lists (suc c.args.place) shape.with_tags shape.with_gone shape.with_pieces (subst (λ (s : Recorded). c.args.place < length s.entries) (sym c.self.view_is) c.requires) in
    search rules

pub born_before-from-requires : goal.born_before-from-requires
born_before-from-requires c =
    let inside = c.self.inside in
    let shape = c.self.invariant.0 in
    let here : c.args.place < length inside.firings.items = within_firings inside.firings.items inside.tags.lists inside.gone.lists inside.newborns.elements inside.pieces.lists (suc c.args.place) shape.with_tags shape.with_gone shape.with_pieces (subst (λ (s : Recorded). c.args.place < length s.entries) (sym c.self.view_is) c.requires) in
    let same : length c.as_slice.result.now ≡ length inside.firings.items = ap length c.as_slice.ensures.value in
    omega (arith, here, same)

pub at-requires : goal.at-requires
at-requires c =
    let inside = c.self.inside in
    let shape = c.self.invariant.0 in
    let here : c.args.place < length inside.firings.items = within_firings inside.firings.items inside.tags.lists inside.gone.lists inside.newborns.elements inside.pieces.lists (suc c.args.place) shape.with_tags shape.with_gone shape.with_pieces (subst (λ (s : Recorded). c.args.place < length s.entries) (sym c.self.view_is) c.requires) in
    omega (arith, here, shape.with_tags)

pub at-requires-2 : goal.at-requires-2
at-requires-2 c =
    let inside = c.self.inside in
    let shape = c.self.invariant.0 in
    let here : c.args.place < length inside.firings.items = within_firings inside.firings.items inside.tags.lists inside.gone.lists inside.newborns.elements inside.pieces.lists (suc c.args.place) shape.with_tags shape.with_gone shape.with_pieces (subst (λ (s : Recorded). c.args.place < length s.entries) (sym c.self.view_is) c.requires) in
    omega (arith, here, shape.with_gone)

pub at-requires-3 : goal.at-requires-3
at-requires-3 c =
    let inside = c.self.inside in
    let shape = c.self.invariant.0 in
    let here : c.args.place < length inside.firings.items = within_firings inside.firings.items inside.tags.lists inside.gone.lists inside.newborns.elements inside.pieces.lists (suc c.args.place) shape.with_tags shape.with_gone shape.with_pieces (subst (λ (s : Recorded). c.args.place < length s.entries) (sym c.self.view_is) c.requires) in
    omega (arith, here, shape.with_pieces)

pub overflow_sub-result : goal.overflow_sub-result
overflow_sub-result c =
    let inside = c.self.inside in
    let shape = c.self.invariant.0 in
    let here : c.args.place < length inside.firings.items = within_firings inside.firings.items inside.tags.lists inside.gone.lists inside.newborns.elements inside.pieces.lists (suc c.args.place) shape.with_tags shape.with_gone shape.with_pieces (subst (λ (s : Recorded). c.args.place < length s.entries) (sym c.self.view_is) c.requires) in
    let firing : slice_get inside.firings.items c.args.place ≡ Some c.index-firing.result.now = slice_get_read inside.firings.items (length inside.firings.items) c.args.place c.index-firing.result.now (search rules) here c.index-firing.ensures in
    let begin : c.born_before-from.result ≡ slice_index (0 ∷ born_ends inside.firings.items) c.args.place = c.born_before-from.ensures ∙ ap (λ fs. slice_index (0 ∷ born_ends fs) c.args.place) c.as_slice.ensures.value in
    born_ends-rise inside.firings.items (length inside.newborns.elements) c.args.place c.born_before-from.result c.index-firing.result.now shape.with_born firing begin

pub returns : goal.returns
returns c =
    let inside = c.self.inside in
    let shape = c.self.invariant.0 in
    let here : c.args.place < length inside.firings.items = within_firings inside.firings.items inside.tags.lists inside.gone.lists inside.newborns.elements inside.pieces.lists (suc c.args.place) shape.with_tags shape.with_gone shape.with_pieces (subst (λ (s : Recorded). c.args.place < length s.entries) (sym c.self.view_is) c.requires) in
    let firing : slice_get inside.firings.items c.args.place ≡ Some c.index-firing.result.now = slice_get_read inside.firings.items (length inside.firings.items) c.args.place c.index-firing.result.now (search rules) here c.index-firing.ensures in
    let begin : c.born_before-from.result ≡ slice_index (0 ∷ born_ends inside.firings.items) c.args.place = c.born_before-from.ensures ∙ ap (λ fs. slice_index (0 ∷ born_ends fs) c.args.place) c.as_slice.ensures.value in
    let f = c.index-firing.result.now in
    subst (λ (s : Recorded). slice_get s.entries c.args.place ≡ Some (entry_with f.rule c.at.result.now c.at-2.result.now (take (f.born - c.born_before-from.result) (drop c.born_before-from.result inside.newborns.elements)) c.at-3.result.now f.halts)) c.self.view_is
    (slice_get-entry inside.firings.items inside.tags.lists inside.gone.lists inside.newborns.elements inside.pieces.lists c.args.place c.born_before-from.result f c.at.result.now c.at-2.result.now c.at-3.result.now firing c.at.ensures c.at-2.ensures c.at-3.ensures begin)
