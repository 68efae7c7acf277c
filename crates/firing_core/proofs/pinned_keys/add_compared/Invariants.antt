-- Those that the tests so far compare have been added.
use Rattle.std.proofs.Common.{take}
use Rattle.std.specs.List.{list_any}
use Rattle.firing_core.specs.PinnedKeys.{AreWith, compares}
use Rattle.firing_core.proofs.pinned_keys.add_compared.Given as goal

abbrev pub invariant-loop-test : goal.invariant-loop-test
invariant-loop-test l = AreWith (λ attr. list_any (compares attr) (take l.test-index l.tests)) l.fn.attributes l.attributes
