-- The list lies between the end before it and its own.
use Rattle.std.proofs.Common.{◌≡◌, ◌<◌, ◌∷◌, Some, arith, rules, sym, subst, ◌∙◌, ap, length, slice_get}
use Rattle.std.specs.Prelude.{slice_index, slice_range}
use Rattle.std.proofs.lemmas.List.{get_or_read}
use Rattle.commit_journal.specs.Lists.{Kept}
use Rattle.commit_journal.proofs.CutLemmas.{RiseTo-at, length-cut_from, slice_get-cut_from}
use Rattle.commit_journal.proofs.lists.Lists.at.Goals as goal

pub begin_of-begin-requires : goal.begin_of-begin-requires
begin_of-begin-requires g c =
    let here : c.args.place < length c.self.inside.ends.items = subst (λ n. c.args.place < n) (length-cut_from 0 c.self.inside.ends.items c.self.inside.items.items) (subst (λ (kept : Kept _). c.args.place < length kept.lists) (sym c.self.view_is) c.requires) in
    let same : length c.as_slice.result.now ≡ length c.self.inside.ends.items = ap length c.as_slice.ensures.value in
    omega (arith, here, same)

pub index-requires : goal.index-requires
index-requires g c =
    let here : c.args.place < length c.self.inside.ends.items = subst (λ n. c.args.place < n) (length-cut_from 0 c.self.inside.ends.items c.self.inside.items.items) (subst (λ (kept : Kept _). c.args.place < length kept.lists) (sym c.self.view_is) c.requires) in
    search rules

pub part-requires : goal.part-requires
part-requires g c =
    let ends = c.self.inside.ends.items in
    let here : c.args.place < length ends = subst (λ n. c.args.place < n) (length-cut_from 0 ends c.self.inside.items.items) (subst (λ (kept : Kept _). c.args.place < length kept.lists) (sym c.self.view_is) c.requires) in
    let begin_is : c.begin_of-begin.result ≡ slice_index (0 ∷ ends) c.args.place = c.begin_of-begin.ensures ∙ ap (λ es. slice_index (0 ∷ es) c.args.place) c.as_slice.ensures.value in
    let end_is : c.index.result.now ≡ slice_index ends c.args.place = get_or_read ends c.args.place c.index.result.now here c.index.ensures 0 in
    let items_are : length c.as_slice-2.result.now ≡ length c.self.inside.items.items = ap length c.as_slice-2.ensures.value in
    let bounds = RiseTo-at 0 ends (length c.self.inside.items.items) c.args.place c.self.invariant.0 here in
    (omega (arith, begin_is, end_is, bounds.0), omega (arith, end_is, items_are, bounds.1))

pub returns : goal.returns
returns g c =
    let ends = c.self.inside.ends.items in
    let items = c.self.inside.items.items in
    let here : c.args.place < length ends = subst (λ n. c.args.place < n) (length-cut_from 0 ends c.self.inside.items.items) (subst (λ (kept : Kept _). c.args.place < length kept.lists) (sym c.self.view_is) c.requires) in
    let begin_is : c.begin_of-begin.result ≡ slice_index (0 ∷ ends) c.args.place = c.begin_of-begin.ensures ∙ ap (λ es. slice_index (0 ∷ es) c.args.place) c.as_slice.ensures.value in
    let end_is : c.index.result.now ≡ slice_index ends c.args.place = get_or_read ends c.args.place c.index.result.now here c.index.ensures 0 in
    let part_is : c.part.result.now ≡ slice_range items (slice_index (0 ∷ ends) c.args.place) (slice_index ends c.args.place) =
    c.part.ensures ∙ ap (λ xs. slice_range xs c.begin_of-begin.result c.index.result.now) c.as_slice-2.ensures.value ∙ ap (λ n. slice_range items n c.index.result.now) begin_is ∙ ap (slice_range items (slice_index (0 ∷ ends) c.args.place)) end_is in
    subst (λ (kept : Kept _). slice_get kept.lists c.args.place ≡ Some c.part.result.now) c.self.view_is (slice_get-cut_from 0 ends items c.args.place here ∙ ap Some (sym part_is))
