-- The lists are the same where what is left of them is.
use lib.Pointwise.{pointwise}
use Rattle.std.proofs.Common.{◌≡◌, drop}
use Rattle.rule_base.specs.Memory.{same_element}
use Rattle.firing_core.proofs.same.same_elements.Given as goal

abbrev pub invariant-loop-at : goal.invariant-loop-at
invariant-loop-at l = pointwise same_element (drop l.at l.some) (drop l.at l.others) ≡ pointwise same_element l.some l.others
