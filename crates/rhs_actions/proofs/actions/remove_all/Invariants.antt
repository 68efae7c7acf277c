-- The designators that are left lead to the same effect.
use Rattle.std.proofs.Common.{◌≡◌, drop}
use Rattle.rule_base.specs.Bindings.{Bindings}
use Rattle.rhs_actions.specs.Acting.{after_removes, reached}
use Rattle.rhs_actions.proofs.actions.remove_all.Given as goal

abbrev pub invariant-loop-place : goal.invariant-loop-place
invariant-loop-place l =
    (b : Bindings) → after_removes l.elements l.at (reached b l.initial.effect) ≡ after_removes l.elements (drop l.place-index l.at) (reached b l.effect)
