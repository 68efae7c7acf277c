-- The elements so far.
use Rattle.std.proofs.Common.{◌≡◌, take}
use Rattle.rule_base.proofs.elements.Elements.to_elements.Given as goal

abbrev pub invariant-loop-at : goal.invariant-loop-at
invariant-loop-at l = l.elements ≡ take l.at l.self
