-- The first element with the tag is the first of those that are left.
use Rattle.std.proofs.Common.{◌≡◌, drop}
use Rattle.rule_base.specs.Memory.{element_at}
use Rattle.rule_base.proofs.elements.Elements.with_tag.Given as goal

abbrev pub invariant-loop-at : goal.invariant-loop-at
invariant-loop-at l = element_at l.self l.tag ≡ element_at (drop l.at l.self) l.tag
