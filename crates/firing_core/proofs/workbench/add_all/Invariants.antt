-- The elements so far, and those of the tags that are left, are all.
use Rattle.std.proofs.Common.{◌≡◌, ◌++◌, drop}
use Rattle.rule_base.specs.Memory.{elements_at}
use Rattle.firing_core.specs.Store.{memory_in}
use Rattle.firing_core.proofs.workbench.add_all.Given as goal

abbrev pub invariant-loop-tag : goal.invariant-loop-tag
invariant-loop-tag l = l.elements ++ elements_at (memory_in l.store) (drop l.tag-index l.tags) ≡ l.initial.elements ++ elements_at (memory_in l.store) l.tags
