-- The tests that are left tell the same.
use Rattle.std.proofs.Common.{◌≡◌, drop}
use Rattle.interference.specs.Finding.{first_binding}
use Rattle.interference.proofs.given.first_binding.Given as goal

abbrev pub invariant-loop-test : goal.invariant-loop-test
invariant-loop-test l = first_binding l.var l.tests ≡ first_binding l.var (drop l.test-index l.tests)
