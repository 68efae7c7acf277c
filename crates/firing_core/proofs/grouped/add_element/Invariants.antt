-- The place is in the groups of the keys by the attributes so far.
use Rattle.std.proofs.Common.{take}
use Rattle.rule_base.specs.Views.{element_in}
use Rattle.firing_core.specs.Grouped.{HasGrown, IsInGroups}
use Rattle.firing_core.proofs.grouped.add_element.Given as goal

abbrev pub invariant-loop-attribute : goal.invariant-loop-attribute
invariant-loop-attribute l = record {
  added : IsInGroups l.groups (take l.attribute-index l.attributes) (element_in l.element) l.place;
  grown : HasGrown l.fn.groups l.groups;
}
