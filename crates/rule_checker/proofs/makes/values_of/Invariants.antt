use Rattle.std.proofs.Common.{◌≡◌, length, drop, replicate}
use Rattle.rule_checker.specs.Walk.{after_each}
use Rattle.rule_base.specs.Value.{nil}
use Rattle.rule_checker.specs.Makes.{with_value}
use Rattle.rule_checker.proofs.makes.values_of.Given as goal

-- what is left leads to the same end
abbrev pub invariant-loop-name : goal.invariant-loop-name
invariant-loop-name l = record {
  same : after_each (with_value l.attrs) l.values.items (drop l.name-index l.sets) ≡ after_each (with_value l.attrs) (replicate (length l.attrs) nil) l.sets;
  size : length l.values.items ≡ length l.attrs;
}
