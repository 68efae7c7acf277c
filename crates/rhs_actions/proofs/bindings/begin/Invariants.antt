-- The condition elements that are left accept the elements that are left.
use Rattle.std.proofs.Common.{◌≡◌, IsSome, drop}
use Rattle.rule_base.specs.ElementMatch.{bindings_with, matched}
use Rattle.rhs_actions.proofs.bindings.begin.Given as goal

abbrev pub invariant-loop-cond : goal.invariant-loop-cond
invariant-loop-cond l = record {
  same : bindings_with l.rule l.elements ≡ matched (drop l.cond-index l.rule.conds) (drop l.next l.elements) l.binds;
  given : IsSome (matched (drop l.cond-index l.rule.conds) (drop l.next l.elements) l.binds);
}
