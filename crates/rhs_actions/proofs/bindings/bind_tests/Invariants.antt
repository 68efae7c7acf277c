-- The tests that are left lead to the same bindings.
use Rattle.std.proofs.Common.{◌≡◌, IsSome, drop}
use Rattle.rule_base.specs.Acceptance.{after_tests}
use Rattle.rhs_actions.proofs.bindings.bind_tests.Given as goal

abbrev pub invariant-loop-test : goal.invariant-loop-test
invariant-loop-test l = record {
  same : after_tests l.tests l.initial.binds l.values ≡ after_tests (drop l.test-index l.tests) l.binds l.values;
  given : IsSome (after_tests (drop l.test-index l.tests) l.binds l.values);
}
