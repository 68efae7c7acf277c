-- The actions that are left lead to the same effect.
use Rattle.std.proofs.Common.{◌≡◌, ◌+◌, Ok, drop}
use Rattle.rule_base.specs.Chains.{◌>>=◌}
use Rattle.rule_base.specs.Effect.{Progress, after_actions, effect}
use Rattle.rhs_actions.specs.Acting.{reached}
use Rattle.rhs_actions.proofs.firing.fire_into.Given as goal

abbrev pub invariant-loop-at : goal.invariant-loop-at
invariant-loop-at l =
    effect l.rule l.elements ≡ (after_actions (l.at + 1) l.elements (drop l.at l.rule.actions) (reached l.binds l.done) >>= λ (p : Progress). Ok p.done)
