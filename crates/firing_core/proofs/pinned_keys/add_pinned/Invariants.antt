-- Those that the condition elements so far pin have been added.
use Rattle.std.proofs.Common.{take}
use Rattle.std.specs.List.{list_any}
use Rattle.firing_core.specs.PinnedKeys.{AreWith, pins_of}
use Rattle.firing_core.proofs.pinned_keys.add_pinned.Given as goal

abbrev pub invariant-loop-cond : goal.invariant-loop-cond
invariant-loop-cond l = AreWith (λ attr. list_any (pins_of l.class attr) (take l.cond-index l.conds)) l.fn.attributes l.attributes
