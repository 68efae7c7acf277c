-- The tests that are left lead to the same row, and have their places.
use Rattle.std.proofs.Common.{◌≡◌, drop, length}
use Rattle.std.specs.List.{AllByRecursion}
use Rattle.element_tests.specs.Asking.{HasPlace}
use Rattle.element_tests.specs.Unbinding.{unbound_by}
use Rattle.element_tests.proofs.acceptance.unbind_tests.Given as goal

abbrev pub invariant-loop-test : goal.invariant-loop-test
invariant-loop-test l = record {
  same : unbound_by l.initial.binds l.tests ≡ unbound_by l.binds (drop l.test-index l.tests);
  long : length l.binds ≡ length l.initial.binds;
  placed : AllByRecursion (HasPlace (length l.initial.binds)) (drop l.test-index l.tests);
}
