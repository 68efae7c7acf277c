-- The settings that are left lead to the same values.
use Rattle.std.proofs.Common.{◌≡◌, drop}
use Rattle.rule_base.specs.Term.{after_sets}
use Rattle.rhs_actions.proofs.terms.set_all.Given as goal

abbrev pub invariant-loop-attr : goal.invariant-loop-attr
invariant-loop-attr l = after_sets l.binds l.sets l.initial.values ≡ after_sets l.binds (drop l.attr-index l.sets) l.values
