-- The classes so far have theirs.
use Rattle.firing_core.specs.PinnedKeys.{AreOfRules}
use Rattle.firing_core.proofs.pinned_keys.pinned_attributes.Given as goal

abbrev pub invariant-loop-class : goal.invariant-loop-class
invariant-loop-class l = AreOfRules l.rules l.class l.attributes.items
