-- The elements have the classes and the values of the range.
use Rattle.std.proofs.Common.{◌≡◌, ◌+◌, ◌≤◌, ◌∙◌, ap, arith, drop, length, subst, sym, take}
use Rattle.std.specs.Prelude.{slice_range}
use Rattle.std.proofs.lemmas.List.{length-drop, length-take}
use Rattle.commit_journal.specs.Newborns.{Made, numbered}
use Rattle.commit_journal.proofs.CutLemmas.{range_is}
use Rattle.commit_journal.proofs.NumberedLemmas.{length-numbered, numbered-range}
use Rattle.commit_journal.proofs.newborns.Newborns.range.Goals as goal

pub overflow_add-from : goal.overflow_add-from
overflow_add-from c =
    let inside = c.self.inside in
    let classes = inside.classes.items in
    let lists = inside.values.lists in
    let from = c.args.from in
    let count = c.args.count in
    let here : from + count ≤ length classes = subst (λ n. from + count ≤ n) (length-numbered inside.first classes lists c.self.invariant.0) (subst (λ (made : Made). from + count ≤ length made.elements) (sym c.self.view_is) c.requires) in
    let same : length c.as_slice.result.now ≡ length classes = ap length c.as_slice.ensures.value in
    omega (arith, here, same, c.as_slice.type_inv)

pub part-classes-requires : goal.part-classes-requires
part-classes-requires c =
    let inside = c.self.inside in
    let classes = inside.classes.items in
    let lists = inside.values.lists in
    let from = c.args.from in
    let count = c.args.count in
    let here : from + count ≤ length classes = subst (λ n. from + count ≤ n) (length-numbered inside.first classes lists c.self.invariant.0) (subst (λ (made : Made). from + count ≤ length made.elements) (sym c.self.view_is) c.requires) in
    let same : length c.as_slice.result.now ≡ length classes = ap length c.as_slice.ensures.value in
    (omega arith, omega (arith, here, same))

pub overflow_add-result : goal.overflow_add-result
overflow_add-result c =
    let inside = c.self.inside in
    let classes = inside.classes.items in
    let lists = inside.values.lists in
    let from = c.args.from in
    let count = c.args.count in
    let here : from + count ≤ length classes = subst (λ n. from + count ≤ n) (length-numbered inside.first classes lists c.self.invariant.0) (subst (λ (made : Made). from + count ≤ length made.elements) (sym c.self.view_is) c.requires) in
    let same : length c.as_slice.result.now ≡ length classes = ap length c.as_slice.ensures.value in
    omega (arith, here, c.self.invariant.1)

pub range-requires : goal.range-requires
range-requires c =
    let inside = c.self.inside in
    let classes = inside.classes.items in
    let lists = inside.values.lists in
    let from = c.args.from in
    let count = c.args.count in
    let here : from + count ≤ length classes = subst (λ n. from + count ≤ n) (length-numbered inside.first classes lists c.self.invariant.0) (subst (λ (made : Made). from + count ≤ length made.elements) (sym c.self.view_is) c.requires) in
    let same : length c.as_slice.result.now ≡ length classes = ap length c.as_slice.ensures.value in
    omega (arith, here, c.self.invariant.0)

pub invariant_of-result : goal.invariant_of-result
invariant_of-result c =
    let inside = c.self.inside in
    let classes = inside.classes.items in
    let lists = inside.values.lists in
    let from = c.args.from in
    let count = c.args.count in
    let here : from + count ≤ length classes = subst (λ n. from + count ≤ n) (length-numbered inside.first classes lists c.self.invariant.0) (subst (λ (made : Made). from + count ≤ length made.elements) (sym c.self.view_is) c.requires) in
    let same : length c.as_slice.result.now ≡ length classes = ap length c.as_slice.ensures.value in
    let taken : c.in_ok-from_slice.field-0.items ≡ take count (drop from classes) = c.in_ok-from_slice.ensures.items ∙ c.part-classes.ensures ∙ ap (λ cs. slice_range cs from (from + count)) c.as_slice.ensures.value ∙ range_is classes from count in
    let of_classes : length c.in_ok-from_slice.field-0.items ≡ count = ap length taken ∙ omega (arith, length-take count (drop from classes), length-drop from classes, here) in
    let of_lists : length c.in_ok-range.field-0.lists ≡ count = ap length c.in_ok-range.ensures ∙ omega (arith, length-take count (drop from lists), length-drop from lists, here, c.self.invariant.0) in
    (omega (arith, of_classes, of_lists), omega (arith, of_classes, here, c.self.invariant.1))

pub returns-clause-elements : goal.returns-clause-elements
returns-clause-elements c =
    let inside = c.self.inside in
    let classes = inside.classes.items in
    let lists = inside.values.lists in
    let from = c.args.from in
    let count = c.args.count in
    let here : from + count ≤ length classes = subst (λ n. from + count ≤ n) (length-numbered inside.first classes lists c.self.invariant.0) (subst (λ (made : Made). from + count ≤ length made.elements) (sym c.self.view_is) c.requires) in
    let same : length c.as_slice.result.now ≡ length classes = ap length c.as_slice.ensures.value in
    let taken : c.in_ok-from_slice.field-0.items ≡ take count (drop from classes) = c.in_ok-from_slice.ensures.items ∙ c.part-classes.ensures ∙ ap (λ cs. slice_range cs from (from + count)) c.as_slice.ensures.value ∙ range_is classes from count in
    let of_classes : length c.in_ok-from_slice.field-0.items ≡ count = ap length taken ∙ omega (arith, length-take count (drop from classes), length-drop from classes, here) in
    let of_lists : length c.in_ok-range.field-0.lists ≡ count = ap length c.in_ok-range.ensures ∙ omega (arith, length-take count (drop from lists), length-drop from lists, here, c.self.invariant.0) in
    subst (λ (made : Made). numbered (inside.first + from) c.in_ok-from_slice.field-0.items c.in_ok-range.field-0.lists ≡ take count (drop from made.elements)) c.self.view_is
    (ap (λ cs. numbered (inside.first + from) cs c.in_ok-range.field-0.lists) taken ∙ ap (numbered (inside.first + from) (take count (drop from classes))) c.in_ok-range.ensures ∙ numbered-range inside.first classes lists from count)

pub returns-clause-next : goal.returns-clause-next
returns-clause-next c =
    let inside = c.self.inside in
    let classes = inside.classes.items in
    let lists = inside.values.lists in
    let from = c.args.from in
    let count = c.args.count in
    let here : from + count ≤ length classes = subst (λ n. from + count ≤ n) (length-numbered inside.first classes lists c.self.invariant.0) (subst (λ (made : Made). from + count ≤ length made.elements) (sym c.self.view_is) c.requires) in
    let same : length c.as_slice.result.now ≡ length classes = ap length c.as_slice.ensures.value in
    let taken : c.in_ok-from_slice.field-0.items ≡ take count (drop from classes) = c.in_ok-from_slice.ensures.items ∙ c.part-classes.ensures ∙ ap (λ cs. slice_range cs from (from + count)) c.as_slice.ensures.value ∙ range_is classes from count in
    let of_classes : length c.in_ok-from_slice.field-0.items ≡ count = ap length taken ∙ omega (arith, length-take count (drop from classes), length-drop from classes, here) in
    let of_lists : length c.in_ok-range.field-0.lists ≡ count = ap length c.in_ok-range.ensures ∙ omega (arith, length-take count (drop from lists), length-drop from lists, here, c.self.invariant.0) in
    let all : length (numbered inside.first classes lists) ≡ length classes = length-numbered inside.first classes lists c.self.invariant.0 in
    subst (λ (made : Made). inside.first + from + length c.in_ok-from_slice.field-0.items + length (drop (from + count) made.elements) ≡ made.next) c.self.view_is
    (omega (arith, of_classes, here, all, length-drop (from + count) (numbered inside.first classes lists)))
