-- The test at hand holds.
use Rattle.rhs_actions.proofs.BindingLemmas.{holds_at}
use Rattle.rhs_actions.proofs.bindings.bind_tests.Goals as goal

pub bind_test-requires : goal.bind_test-requires
bind_test-requires c =
    holds_at c.args.tests.now c.loop-test.test-index c.test-item.result c.loop-test.binds c.args.values.now c.loop-test-test.true c.test-item.is c.loop-test.invariant.given
