use Rattle.std.proofs.Common.{◌≡◌, ◌+◌, drop}
use Rattle.rule_checker.specs.Forms.{after_forms}
use Rattle.rule_checker.specs.Opening.{with_initial, opening_list}
use Rattle.rule_checker.proofs.loading.load.Given as goal

-- what is left leads to the same end
abbrev pub invariant-loop-form : goal.invariant-loop-form
invariant-loop-form l = record {
  same : after_forms (with_initial l.classes) (l.loaded + 1) l.elements (drop l.form-index l.memory) ≡ opening_list l.program l.memory;
  count : l.loaded ≡ l.form-index;
}
