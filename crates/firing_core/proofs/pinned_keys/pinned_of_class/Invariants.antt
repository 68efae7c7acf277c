-- Those that are pinned in the rules so far have been added.
use Rattle.std.proofs.Common.{[], take}
use Rattle.firing_core.specs.PinnedKeys.{AreWith, is_pinned}
use Rattle.firing_core.proofs.pinned_keys.pinned_of_class.Given as goal

abbrev pub invariant-loop-rule : goal.invariant-loop-rule
invariant-loop-rule l = AreWith (is_pinned (take l.rule-index l.rules) l.class) [] l.attributes
