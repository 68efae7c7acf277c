-- So many makes have been counted, and the others are left.
use Rattle.std.proofs.Common.{◌≡◌, ◌+◌, ◌≤◌, [], drop}
use Rattle.rule_base.proofs.EffectLemmas.{makes}
use Rattle.rhs_actions.specs.EffectPlaces.{changes_in}
use Rattle.rhs_actions.proofs.effect.makes.Given as goal

abbrev pub invariant-loop-change : goal.invariant-loop-change
invariant-loop-change l = record {
  counted : l.count + makes (changes_in [] (drop l.change-index l.changes)) ≡ makes (changes_in [] l.changes);
  few : l.count ≤ l.change-index;
}
