-- The elements of makes are an opening.
use Rattle.std.proofs.Common.{◌+◌, drop, sym, ap, ◌∙◌}
use Rattle.std.proofs.lemmas.List.{at_drop_all}
use Rattle.rule_checker.specs.Forms.{after_forms}
use Rattle.rule_checker.specs.Opening.{with_initial}
use Rattle.rule_checker.proofs.OpeningLemmas.{opening_list-IsOpening}
use Rattle.rule_checker.proofs.loading.load.Goals as goal

pub returns-clause-opening : goal.returns-clause-opening
returns-clause-opening c few_makes =
    let program = c.args.program.now in
    let memory = c.args.memory.now in
    let elements = c.loop-form.elements in
    let number = c.loop-form.loaded + 1 in
    let index = c.loop-form.form-index in
    let all = sym (at_drop_all (after_forms (with_initial program.classes) number elements) c.as_slice-form-items.result.now index c.loop-form-test.false) in
    let same_forms = ap (λ forms. after_forms (with_initial program.classes) number elements (drop index forms)) c.as_slice-form-items.ensures.forms in
    let same_classes = ap (λ classes. after_forms (with_initial classes) number elements (drop index memory)) c.as_slice-classes.ensures in
    let passes = sym c.loop-form.invariant.same ∙ same_classes ∙ sym same_forms ∙ sym all in
    (opening_list-IsOpening program memory elements c.requires few_makes c.as_slice-form-items.ensures.shape.few passes)
