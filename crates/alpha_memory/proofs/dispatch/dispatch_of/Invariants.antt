-- None of the tests so far leads anywhere.
use Rattle.std.proofs.Common.{◌≡◌, drop}
use Rattle.alpha_memory.specs.Dispatch.{dispatch_of}
use Rattle.alpha_memory.proofs.dispatch.dispatch_of.Given as goal

abbrev pub invariant-loop-test : goal.invariant-loop-test
invariant-loop-test l = dispatch_of (drop l.test-index l.tests) ≡ dispatch_of l.tests
