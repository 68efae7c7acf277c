-- The join asks for the tests so far.
use Rattle.std.proofs.Common.{◌≡◌, take}
use Rattle.join_tests.specs.Sources.{sources_after_tests}
use Rattle.join_tests.specs.Compiling.{IsJoin}
use Rattle.join_tests.proofs.compile.join_of.Given as goal

abbrev pub invariant-loop-test : goal.invariant-loop-test
invariant-loop-test l = record {
  join_is : IsJoin l.number l.initial.sources (record l.cond { tests = take l.test-index l.cond.tests }) l.join;
  sources_are : l.sources ≡ sources_after_tests l.number l.initial.sources (take l.test-index l.cond.tests);
}
