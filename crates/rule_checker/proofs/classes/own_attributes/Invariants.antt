use Rattle.std.proofs.Common.{◌≡◌, ◌≤◌, length, drop, []}
use Rattle.rule_checker.specs.Walk.{after_each}
use Rattle.rule_checker.specs.Classes.{with_attribute}
use Rattle.rule_checker.proofs.classes.own_attributes.Given as goal

-- what is left leads to the same end
abbrev pub invariant-loop-name : goal.invariant-loop-name
invariant-loop-name l = record {
  same : after_each with_attribute l.own (drop l.name-index l.names) ≡ after_each with_attribute [] l.names;
  few : length l.own ≤ 64;
}
