use Rattle.std.proofs.Common.{◌≡◌, ◌+◌, drop}
use Rattle.rule_checker.specs.Forms.{after_forms}
use Rattle.rule_checker.specs.Checked.{with_form, checked}
use Rattle.rule_checker.proofs.checking.check.Given as goal

-- what is left leads to the same end
abbrev pub invariant-loop-form : goal.invariant-loop-form
invariant-loop-form l = record {
  same : after_forms with_form (l.checked + 1) l.declarations (drop l.form-index l.forms) ≡ checked l.forms;
  count : l.checked ≡ l.form-index;
}
