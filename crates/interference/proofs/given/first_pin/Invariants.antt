-- The tests that are left tell the same.
use Rattle.std.proofs.Common.{◌≡◌, drop}
use Rattle.interference.specs.Pins.{first_pin, pin}
use Rattle.rule_base.specs.Chains.{first_answer}
use Rattle.interference.proofs.given.first_pin.Given as goal

abbrev pub invariant-loop-test : goal.invariant-loop-test
invariant-loop-test l = first_pin l.conds l.attr l.cond ≡ first_answer (pin l.conds l.attr) (drop l.test-index l.cond.tests)
