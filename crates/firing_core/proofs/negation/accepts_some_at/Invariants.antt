-- What is left gives the same, and the row is as before.
use Rattle.std.proofs.Common.{◌≡◌, drop}
use Rattle.rule_base.specs.Match.{accepts_some}
use Rattle.firing_core.specs.Store.{living_at}
use Rattle.firing_core.proofs.negation.accepts_some_at.Given as goal

abbrev pub invariant-loop-place : goal.invariant-loop-place
invariant-loop-place l = record {
  left : accepts_some l.cond l.fn.binds (living_at l.store (drop l.place-index l.places)) ≡ accepts_some l.cond l.fn.binds (living_at l.store l.places);
  kept : l.binds ≡ l.fn.binds;
}
