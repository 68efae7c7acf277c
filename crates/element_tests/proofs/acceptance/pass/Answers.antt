-- The test at hand may be taken; where it fails, what was bound is taken away, and else the row goes on.
use Rattle.std.proofs.Common.{rules, length, take, sym, ◌∙◌, ap, subst}
use Rattle.std.specs.List.{AllByRecursion}
use Rattle.element_tests.specs.Asking.{HasPlace}
use Rattle.element_tests.proofs.PassLemmas.{IsPassing-more, MayTake-passing}
use Rattle.element_tests.proofs.acceptance.pass.Goals as goal

pub passes-requires : goal.passes-requires
passes-requires c =
    MayTake-passing c.args.tests.now c.args.binds.now c.args.values.now c.loop-taken.taken c.loop-taken.binds c.index-tests-taken.result (search rules) c.index-tests-taken.is c.loop-taken.invariant

pub unbind_tests-requires : goal.unbind_tests-requires
unbind_tests-requires c =
    subst (λ n. AllByRecursion (HasPlace n) (take c.loop-taken.taken c.args.tests.now)) (sym (ap length c.if-not-passes.ensures.kept ∙ c.loop-taken.invariant.long)) c.loop-taken.invariant.placed

pub loop-taken-preserved : goal.loop-taken-preserved
loop-taken-preserved c =
    IsPassing-more c.args.tests.now c.args.binds.now c.args.values.now c.loop-taken.taken c.loop-taken.binds c.passes.new.binds c.index-tests-taken.result (search rules) c.index-tests-taken.is c.loop-taken.invariant c.if-not-passes.ensures.passed
