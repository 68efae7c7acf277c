-- The elements so far have their sizes.
use Rattle.std.proofs.Common.{take}
use Rattle.std.specs.List.{AllByRecursion}
use Rattle.rule_base.specs.Memory.{HasSize}
use Rattle.rule_base.specs.Sound.{sizes_of}
use Rattle.rule_base.proofs.instantiation.have_sizes.Given as goal

abbrev pub invariant-loop-at : goal.invariant-loop-at
invariant-loop-at l = AllByRecursion (HasSize (sizes_of l.classes)) (take l.at l.elements)
