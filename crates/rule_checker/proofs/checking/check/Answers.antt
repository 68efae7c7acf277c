-- Each form has few names, the form that is refused is the first violation, and what passes is sound.
use Rattle.std.proofs.Common.{◌+◌, length, drop, sym, ap, subst, ◌∙◌, arith}
use Rattle.std.specs.List.{flat_map}
use Rattle.rule_base.specs.declared.program.Program.{Program}
use Rattle.rule_base.specs.Sound.{IsSound}
use Rattle.ops_reader.specs.Named.{numbers_in_form}
use Rattle.rule_checker.specs.Forms.{after_forms}
use Rattle.rule_checker.specs.Checked.{with_form}
use Rattle.rule_checker.proofs.FormLemmas.{form_tells, names-within, walk_passes}
use Rattle.rule_checker.proofs.CheckedLemmas.{checked-sound}
use Rattle.rule_checker.proofs.MakeLemmas.{checked-makes}
use Rattle.rule_checker.proofs.checking.check.Goals as goal

pub add_form-requires : goal.add_form-requires
add_form-requires c =
    let forms = c.as_slice-form-items.ensures.forms in
    let within = names-within c.as_slice-form-items.result.now c.loop-form.form-index c.form-item.result c.form-item.is c.loop-form-test.true in
    record { room = omega (arith, within, ap (λ fs. length (flat_map numbers_in_form fs)) forms, c.as_slice-form-items.ensures.shape.few_names) }

pub returns-in-Err-clause-refused : goal.returns-in-Err-clause-refused
returns-in-Err-clause-refused c =
    let number = c.loop-form.checked + 1 in
    let left = c.loop-form.declarations in
    let same = ap (λ forms. after_forms with_form number left (drop c.loop-form.form-index forms)) c.as_slice-form-items.ensures.forms ∙ c.loop-form.invariant.same in
    rw c.at.ensures (form_tells with_form number left c.as_slice-form-items.result.now c.loop-form.form-index c.form-item.result _ c.in-Err.refusal c.in-Err.ensures.refused c.form-item.is c.loop-form-test.true same)

pub returns-clause-sound : goal.returns-clause-sound
returns-clause-sound c =
    let passes = walk_passes with_form (c.loop-form.checked + 1) c.loop-form.declarations c.as_slice-form-items.ensures.forms c.loop-form-test.false c.loop-form.invariant.same in
    subst IsSound (sym c.into_program.ensures) (checked-sound c.args.forms.now c.loop-form.declarations c.as_slice-form-items.ensures.shape.shaped passes)

pub returns-clause-makes : goal.returns-clause-makes
returns-clause-makes c =
    let passes = walk_passes with_form (c.loop-form.checked + 1) c.loop-form.declarations c.as_slice-form-items.ensures.forms c.loop-form-test.false c.loop-form.invariant.same in
    omega (arith, ap (λ (p : Program). length p.makes) c.into_program.ensures, checked-makes c.args.forms.now c.loop-form.declarations passes)
