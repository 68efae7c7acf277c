-- The first ones are the same.
use Rattle.std.proofs.Common.{◌≡◌, take}
use Rattle.alpha_memory.proofs.alike.same_tests.Given as goal

abbrev pub invariant-loop-at : goal.invariant-loop-at
invariant-loop-at l = take l.at l.a ≡ take l.at l.b
