-- The elements so far.
use Rattle.std.proofs.Common.{◌≡◌, take}
use Rattle.rule_base.proofs.elements.Elements.from_slice.Given as goal

abbrev pub invariant-loop-element : goal.invariant-loop-element
invariant-loop-element l = l.all ≡ take l.element-index l.elements
