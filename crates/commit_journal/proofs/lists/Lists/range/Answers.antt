-- The lists lie between where the first one begins and where the last one ends.
use Rattle.std.proofs.Common.{◌≡◌, ◌+◌, ◌-◌, ◌≤◌, ◌∷◌, ◌∙◌, ap, arith, drop, length, subst, sym, take}
use Rattle.std.specs.Prelude.{slice_index, slice_range}
use Rattle.commit_journal.specs.Lists.{Kept, RiseTo, cut}
use Rattle.commit_journal.proofs.CutLemmas.{RiseTo-range, begin-le, cut-range, length-cut_from, length-range, places_before, range_is}
use Rattle.commit_journal.proofs.lists.Lists.range.Goals as goal

pub begin_of-begin-requires : goal.begin_of-begin-requires
begin_of-begin-requires g c =
    let ends = c.self.inside.ends.items in
    let items = c.self.inside.items.items in
    let here : c.args.from + c.args.count ≤ length ends = subst (λ n. c.args.from + c.args.count ≤ n) (length-cut_from 0 ends items) (subst (λ (kept : Kept _). c.args.from + c.args.count ≤ length kept.lists) (sym c.self.view_is) c.requires) in
    let same : length c.as_slice-ends.result.now ≡ length ends = ap length c.as_slice-ends.ensures.value in
    omega (arith, here, same)

pub overflow_add-from : goal.overflow_add-from
overflow_add-from g c =
    let ends = c.self.inside.ends.items in
    let items = c.self.inside.items.items in
    let here : c.args.from + c.args.count ≤ length ends = subst (λ n. c.args.from + c.args.count ≤ n) (length-cut_from 0 ends items) (subst (λ (kept : Kept _). c.args.from + c.args.count ≤ length kept.lists) (sym c.self.view_is) c.requires) in
    let same : length c.as_slice-ends.result.now ≡ length ends = ap length c.as_slice-ends.ensures.value in
    omega (arith, here, same, c.as_slice-ends.type_inv)

pub begin_of-end-requires : goal.begin_of-end-requires
begin_of-end-requires g c =
    let ends = c.self.inside.ends.items in
    let items = c.self.inside.items.items in
    let here : c.args.from + c.args.count ≤ length ends = subst (λ n. c.args.from + c.args.count ≤ n) (length-cut_from 0 ends items) (subst (λ (kept : Kept _). c.args.from + c.args.count ≤ length kept.lists) (sym c.self.view_is) c.requires) in
    let same : length c.as_slice-ends.result.now ≡ length ends = ap length c.as_slice-ends.ensures.value in
    omega (arith, here, same)

pub overflow_add-from-2 : goal.overflow_add-from-2
overflow_add-from-2 g c =
    let ends = c.self.inside.ends.items in
    let items = c.self.inside.items.items in
    let here : c.args.from + c.args.count ≤ length ends = subst (λ n. c.args.from + c.args.count ≤ n) (length-cut_from 0 ends items) (subst (λ (kept : Kept _). c.args.from + c.args.count ≤ length kept.lists) (sym c.self.view_is) c.requires) in
    let same : length c.as_slice-ends.result.now ≡ length ends = ap length c.as_slice-ends.ensures.value in
    omega (arith, here, same, c.as_slice-ends.type_inv)

pub part-requires : goal.part-requires
part-requires g c =
    let ends = c.self.inside.ends.items in
    let items = c.self.inside.items.items in
    let here : c.args.from + c.args.count ≤ length ends = subst (λ n. c.args.from + c.args.count ≤ n) (length-cut_from 0 ends items) (subst (λ (kept : Kept _). c.args.from + c.args.count ≤ length kept.lists) (sym c.self.view_is) c.requires) in
    let same : length c.as_slice-ends.result.now ≡ length ends = ap length c.as_slice-ends.ensures.value in
    (omega arith, omega (arith, here, same))

pub part-requires-2 : goal.part-requires-2
part-requires-2 g c =
    let ends = c.self.inside.ends.items in
    let items = c.self.inside.items.items in
    let here : c.args.from + c.args.count ≤ length ends = subst (λ n. c.args.from + c.args.count ≤ n) (length-cut_from 0 ends items) (subst (λ (kept : Kept _). c.args.from + c.args.count ≤ length kept.lists) (sym c.self.view_is) c.requires) in
    let same : length c.as_slice-ends.result.now ≡ length ends = ap length c.as_slice-ends.ensures.value in
    let begin = slice_index (0 ∷ ends) c.args.from in
    let end = slice_index (0 ∷ ends) (c.args.from + c.args.count) in
    let begin_is : c.begin_of-begin.result ≡ begin = c.begin_of-begin.ensures ∙ ap (λ es. slice_index (0 ∷ es) c.args.from) c.as_slice-ends.ensures.value in
    let end_is : c.begin_of-end.result ≡ end = c.begin_of-end.ensures ∙ ap (λ es. slice_index (0 ∷ es) (c.args.from + c.args.count)) c.as_slice-ends.ensures.value in
    let bounds = begin-le ends (length items) c.args.from c.args.count c.self.invariant.0 here in
    (omega (arith, begin_is, end_is, bounds.0), omega (arith, end_is, bounds.1, ap length c.as_slice.ensures.value))

pub invariant_of-result : goal.invariant_of-result
invariant_of-result g c =
    let ends = c.self.inside.ends.items in
    let items = c.self.inside.items.items in
    let here : c.args.from + c.args.count ≤ length ends = subst (λ n. c.args.from + c.args.count ≤ n) (length-cut_from 0 ends items) (subst (λ (kept : Kept _). c.args.from + c.args.count ≤ length kept.lists) (sym c.self.view_is) c.requires) in
    let same : length c.as_slice-ends.result.now ≡ length ends = ap length c.as_slice-ends.ensures.value in
    let begin = slice_index (0 ∷ ends) c.args.from in
    let end = slice_index (0 ∷ ends) (c.args.from + c.args.count) in
    let begin_is : c.begin_of-begin.result ≡ begin = c.begin_of-begin.ensures ∙ ap (λ es. slice_index (0 ∷ es) c.args.from) c.as_slice-ends.ensures.value in
    let end_is : c.begin_of-end.result ≡ end = c.begin_of-end.ensures ∙ ap (λ es. slice_index (0 ∷ es) (c.args.from + c.args.count)) c.as_slice-ends.ensures.value in
    let bounds = begin-le ends (length items) c.args.from c.args.count c.self.invariant.0 here in
    let places : c.in_ok-places_before.field-0.items ≡ places_before begin (take c.args.count (drop c.args.from ends)) =
    c.in_ok-places_before.ensures
    ∙ ap (λ n. places_before n c.part.result.now) begin_is
    ∙ ap (places_before begin) (c.part.ensures ∙ ap (λ es. slice_range es c.args.from (c.args.from + c.args.count)) c.as_slice-ends.ensures.value ∙ range_is ends c.args.from c.args.count) in
    let values : c.in_ok-from_slice.field-0.items ≡ slice_range items begin end =
    c.in_ok-from_slice.ensures.items ∙ c.part-2.ensures ∙ ap (λ xs. slice_range xs c.begin_of-begin.result c.begin_of-end.result) c.as_slice.ensures.value
    ∙ ap (λ n. slice_range items n c.begin_of-end.result) begin_is ∙ ap (slice_range items begin) end_is in
    let size : length c.in_ok-from_slice.field-0.items ≡ end - begin = ap length values ∙ length-range items begin end bounds.1 in (
      subst (λ es. RiseTo 0 es (length c.in_ok-from_slice.field-0.items)) (sym places) (subst (RiseTo 0 (places_before begin (take c.args.count (drop c.args.from ends)))) (sym size) (RiseTo-range ends (length items) c.args.from c.args.count c.self.invariant.0 here)),
      omega (arith, size, bounds.1, c.self.invariant.1),
    )

pub returns : goal.returns
returns g c =
    let ends = c.self.inside.ends.items in
    let items = c.self.inside.items.items in
    let here : c.args.from + c.args.count ≤ length ends = subst (λ n. c.args.from + c.args.count ≤ n) (length-cut_from 0 ends items) (subst (λ (kept : Kept _). c.args.from + c.args.count ≤ length kept.lists) (sym c.self.view_is) c.requires) in
    let same : length c.as_slice-ends.result.now ≡ length ends = ap length c.as_slice-ends.ensures.value in
    let begin = slice_index (0 ∷ ends) c.args.from in
    let end = slice_index (0 ∷ ends) (c.args.from + c.args.count) in
    let begin_is : c.begin_of-begin.result ≡ begin = c.begin_of-begin.ensures ∙ ap (λ es. slice_index (0 ∷ es) c.args.from) c.as_slice-ends.ensures.value in
    let end_is : c.begin_of-end.result ≡ end = c.begin_of-end.ensures ∙ ap (λ es. slice_index (0 ∷ es) (c.args.from + c.args.count)) c.as_slice-ends.ensures.value in
    let bounds = begin-le ends (length items) c.args.from c.args.count c.self.invariant.0 here in
    let places : c.in_ok-places_before.field-0.items ≡ places_before begin (take c.args.count (drop c.args.from ends)) =
    c.in_ok-places_before.ensures
    ∙ ap (λ n. places_before n c.part.result.now) begin_is
    ∙ ap (places_before begin) (c.part.ensures ∙ ap (λ es. slice_range es c.args.from (c.args.from + c.args.count)) c.as_slice-ends.ensures.value ∙ range_is ends c.args.from c.args.count) in
    let values : c.in_ok-from_slice.field-0.items ≡ slice_range items begin end =
    c.in_ok-from_slice.ensures.items ∙ c.part-2.ensures ∙ ap (λ xs. slice_range xs c.begin_of-begin.result c.begin_of-end.result) c.as_slice.ensures.value
    ∙ ap (λ n. slice_range items n c.begin_of-end.result) begin_is ∙ ap (slice_range items begin) end_is in
    subst (λ (kept : Kept _). cut c.in_ok-places_before.field-0.items c.in_ok-from_slice.field-0.items ≡ take c.args.count (drop c.args.from kept.lists)) c.self.view_is
    (ap (λ es. cut es c.in_ok-from_slice.field-0.items) places ∙ ap (cut (places_before begin (take c.args.count (drop c.args.from ends)))) values ∙ cut-range ends items c.args.from c.args.count c.self.invariant.0 here)
