use Rattle.std.proofs.Common.{◌≡◌, drop, []}
use Rattle.rule_checker.specs.Walk.{after_each}
use Rattle.rule_checker.specs.RightSide.{with_designator}
use Rattle.rule_checker.proofs.right_side.designators_of.Given as goal

-- what is left leads to the same end
abbrev pub invariant-loop-at : goal.invariant-loop-at
invariant-loop-at l = after_each (with_designator l.elements) l.done (drop l.at-index l.places) ≡ after_each (with_designator l.elements) [] l.places
