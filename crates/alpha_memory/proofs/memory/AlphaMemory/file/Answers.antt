-- The stores that were found have changed.
use Rattle.std.proofs.Common.{◌≡◌, ◌+◌, ◌≤◌, ◌==◌, ◌++◌, ap, subst, ◌∙◌, arith, cond, length, length-append, length-take, map, rules, take}
use Rattle.std.specs.Vec.{with_items}
use Rattle.std.proofs.lemmas.List.{with_items_is}
use Rattle.std.proofs.lemmas.Result.{on_err_weaker, on_ok_weaker}
use Rattle.rule_base.specs.Views.{element_in}
use Rattle.alpha_memory.specs.Times.{times}
use Rattle.alpha_memory.specs.Stores.{AreFiledOrNot, admits, filed, has_at, with_changes, with_place}
use Rattle.alpha_memory.specs.Dispatch.{found}
use Rattle.alpha_memory.proofs.CountLemmas.{counted_after, either_way}
use Rattle.alpha_memory.proofs.TimesLemmas.{times-append}
use Rattle.alpha_memory.proofs.FoundLemmas.{found-times}
use Rattle.alpha_memory.proofs.FilingLemmas.{added_behind, filed_all, filed_some}
use Rattle.alpha_memory.proofs.memory.AlphaMemory.file.Goals as goal

pub returns-clause-ok : goal.returns-clause-ok
returns-clause-ok c =
    let e = element_in c.args.element in
    let here = c.self.inside in
    let old = c.args.passed.now.items in
    let change = with_place c.args.place e in
    let names = found here.stores.items here.numbers.entries here.attributes.entries e in
    let passed = c.in_ok-find_all.ensures ∙ ap (λ ss. old ++ found ss here.numbers.entries here.attributes.entries e) c.as_slice.ensures.value in
    let named = added_behind old c.deref.result.now c.find_all.new.passed.items names c.len-start.result (omega (arith, c.len-start.ensures, c.args.passed.now.ok.0)) c.deref.ensures.value passed in
    on_ok_weaker c.file_in_all.result
    (λ changed.
    with_items_is here.stores c.file_in_all.new.stores (search rules)
    ∙ changed
    ∙ ap (λ ns. with_changes change ns c.as_mut_slice.result.now) named
    ∙ ap (with_changes change names) c.as_mut_slice.ensures.value
    ∙ filed_all c.args.place e names here.stores.items (λ n. found-times here.stores.items here.numbers.entries here.attributes.entries e n c.self.invariant)
    ∙ ap (map (filed c.args.place e)) c.self.view_is)
    c.file_in_all.ensures.ok

pub returns-clause-passed : goal.returns-clause-passed
returns-clause-passed c =
    let e = element_in c.args.element in
    let here = c.self.inside in
    let old = c.args.passed.now.items in
    let names = found here.stores.items here.numbers.entries here.attributes.entries e in
    let passed = c.in_ok-find_all.ensures ∙ ap (λ ss. old ++ found ss here.numbers.entries here.attributes.entries e) c.as_slice.ensures.value in
    on_ok_weaker c.file_in_all.result
    (λ changed n.
    ap (times (λ m. n == m)) passed
    ∙ times-append (λ m. n == m) old names
    ∙ ap (λ k. times (λ m. n == m) old + k)
    (found-times here.stores.items here.numbers.entries here.attributes.entries e n c.self.invariant
    ∙ ap (λ ss. cond (has_at (admits e) ss n) 1 0) c.self.view_is))
    c.file_in_all.ensures.ok

pub returns-clause-err : goal.returns-clause-err
returns-clause-err c =
    let e = element_in c.args.element in
    let here = c.self.inside in
    let old = c.args.passed.now.items in
    let change = with_place c.args.place e in
    let names = found here.stores.items here.numbers.entries here.attributes.entries e in
    let passed = c.in_ok-find_all.ensures ∙ ap (λ ss. old ++ found ss here.numbers.entries here.attributes.entries e) c.as_slice.ensures.value in
    let named = added_behind old c.deref.result.now c.find_all.new.passed.items names c.len-start.result (omega (arith, c.len-start.ensures, c.args.passed.now.ok.0)) c.deref.ensures.value passed in
    on_err_weaker c.file_in_all.result
    (λ cut.
    subst (λ ss. AreFiledOrNot c.args.place e ss (with_items here.stores c.file_in_all.new.stores).items) c.self.view_is
    (filed_some c.args.place e names cut.0 here.stores.items (with_items here.stores c.file_in_all.new.stores).items (λ n. found-times here.stores.items here.numbers.entries here.attributes.entries e n c.self.invariant)
    (with_items_is here.stores c.file_in_all.new.stores (search rules)
    ∙ cut.1
    ∙ ap (λ ns. with_changes change (take cut.0 ns) c.as_mut_slice.result.now) named
    ∙ ap (with_changes change (take cut.0 names)) c.as_mut_slice.ensures.value)))
    c.file_in_all.ensures.err

pub returns-clause-count : goal.returns-clause-count
returns-clause-count c =
    let e = element_in c.args.element in
    let here = c.self.inside in
    let old = c.args.passed.now.items in
    let change = with_place c.args.place e in
    let names = found here.stores.items here.numbers.entries here.attributes.entries e in
    let passed = c.in_ok-find_all.ensures ∙ ap (λ ss. old ++ found ss here.numbers.entries here.attributes.entries e) c.as_slice.ensures.value in
    let named = added_behind old c.deref.result.now c.find_all.new.passed.items names c.len-start.result (omega (arith, c.len-start.ensures, c.args.passed.now.ok.0)) c.deref.ensures.value passed in
    let few : length names ≤ length c.find_all.new.passed.items = omega (arith, ap length passed, length-append old names) in
    let written = with_items_is here.stores c.file_in_all.new.stores (search rules) in
    let start : c.as_mut_slice.result.now ≡ c.args.self.now = c.as_mut_slice.ensures.value ∙ c.self.view_is in
    either_way c.file_in_all.result c.file_in_all.ensures.ok c.file_in_all.ensures.err
    (λ changed. counted_after c.args.place e names names c.args.self.now (with_items here.stores c.file_in_all.new.stores).items c.find_all.new.passed.items (omega arith) few
    (written ∙ changed ∙ ap (λ ns. with_changes change ns c.as_mut_slice.result.now) named ∙ ap (with_changes change names) start))
    (λ cut. counted_after c.args.place e names (take cut.0 names) c.args.self.now (with_items here.stores c.file_in_all.new.stores).items c.find_all.new.passed.items (omega (arith, length-take cut.0 names)) few
    (written ∙ cut.1 ∙ ap (λ ns. with_changes change (take cut.0 ns) c.as_mut_slice.result.now) named ∙ ap (with_changes change (take cut.0 names)) start))
