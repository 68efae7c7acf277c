-- A program has no more top-level makes than its text has forms.
use Rattle.std.proofs.Common.{◌≡◌, ℕ, ◌+◌, ◌≤◌, List, [], ◌∷◌, ◌++◌, Ok, length, ap, arith, length-append}
use Rattle.rule_base.specs.declared.program.Program.{Program}
use Rattle.ops_reader.specs.declared.form.Form.{Form}
use Rattle.ops_reader.specs.declared.form.Form.TheVariants as form
use Rattle.rule_checker.specs.Forms.{at_form, after_forms}
use Rattle.rule_checker.specs.Classes.{with_class}
use Rattle.rule_checker.specs.Makes.{make_of}
use Rattle.rule_checker.specs.Rules.{with_rule}
use Rattle.rule_checker.specs.Checked.{with_form, no_program, checked}
use Rattle.rule_checker.proofs.ResultLemmas.{passed, same_ok}
use Rattle.rule_checker.proofs.CheckedLemmas.{at_form-passes}

makes_after : (p : Program) (f : Form) (next : Program) → with_form p f ≡ Ok next → length next.makes ≤ length p.makes + 1
makes_after p (form.Literalize class attrs) next e =
    let w = passed (with_class p.classes class attrs) (λ classes. Ok (record p { classes = classes })) next e in
    omega (arith, ap (λ (q : Program). length q.makes) (same_ok w.2))
makes_after p (form.P name conds actions) next e =
    let w = passed (with_rule p.classes p.rules name conds actions) (λ rules. Ok (record p { rules = rules })) next e in
    omega (arith, ap (λ (q : Program). length q.makes) (same_ok w.2))
makes_after p (form.Make class sets) next e =
    let w = passed (make_of p.classes class sets) (λ make. Ok (record p { makes = p.makes ++ make ∷ [] })) next e in
    omega (arith, ap (λ (q : Program). length q.makes) (same_ok w.2), length-append p.makes (w.0 ∷ []))
makes_after p (form.Strategy mea) next e = omega (arith, ap (λ (q : Program). length q.makes) (same_ok e))
makes_after p (form.Watch level) next e = omega (arith, ap (λ (q : Program). length q.makes) (same_ok e))

makes_counted : (number : ℕ) (p : Program) (forms : List Form) (q : Program) → after_forms with_form number p forms ≡ Ok q → length q.makes ≤ length p.makes + length forms
makes_counted number p [] q e = omega (arith, ap (λ (x : Program). length x.makes) (same_ok e))
makes_counted number p (f ∷ forms) q e =
    let w = passed (at_form number (with_form p f)) (λ next. after_forms with_form (number + 1) next forms) q e in
    omega (arith, makes_counted (number + 1) w.0 forms q w.2, makes_after p f w.0 (at_form-passes number (with_form p f) w.0 w.1))

pub checked-makes : (forms : List Form) (p : Program) → checked forms ≡ Ok p → length p.makes ≤ length forms
checked-makes forms p e = omega (arith, makes_counted 1 no_program forms p e)
