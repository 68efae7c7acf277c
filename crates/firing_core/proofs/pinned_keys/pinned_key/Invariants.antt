-- The tests that are left give the same.
use Rattle.std.proofs.Common.{◌≡◌, drop}
use Rattle.firing_core.specs.PinnedKeys.{key_by, pinned_key}
use Rattle.rule_base.specs.Chains.{first_answer}
use Rattle.firing_core.proofs.pinned_keys.pinned_key.Given as goal

abbrev pub invariant-loop-test : goal.invariant-loop-test
invariant-loop-test l = pinned_key l.attributes l.binds l.cond ≡ first_answer (key_by l.attributes l.cond.class l.binds) (drop l.test-index l.cond.tests)
