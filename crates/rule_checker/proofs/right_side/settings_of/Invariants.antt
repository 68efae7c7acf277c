use Rattle.std.proofs.Common.{◌≡◌, drop, []}
use Rattle.rule_checker.specs.Walk.{after_each}
use Rattle.rule_checker.specs.RightSide.{with_setting}
use Rattle.rule_checker.proofs.right_side.settings_of.Given as goal

-- what is left leads to the same end
abbrev pub invariant-loop-set : goal.invariant-loop-set
invariant-loop-set l = after_each (with_setting l.attrs l.scope) l.done (drop l.set-index l.sets) ≡ after_each (with_setting l.attrs l.scope) [] l.sets
