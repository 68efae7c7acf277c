-- The tests so far have led to the row.
use Rattle.element_tests.proofs.PassLemmas.{IsPassing}
use Rattle.element_tests.proofs.acceptance.pass.Given as goal

abbrev pub invariant-loop-taken : goal.invariant-loop-taken
invariant-loop-taken l = IsPassing l.tests l.initial.binds l.values l.taken l.binds
