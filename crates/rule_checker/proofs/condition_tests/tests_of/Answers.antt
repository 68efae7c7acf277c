-- One attribute at a time.
use Rattle.std.proofs.lemmas.Result.{err_from_is_err_and}
use Rattle.rule_checker.specs.ConditionTests.{with_tests}
use Rattle.rule_checker.proofs.WalkLemmas.{tells_item}
use Rattle.rule_checker.proofs.condition_tests.tests_of.Goals as goal

pub returns-in_err-add_attribute-clause-refused : goal.returns-in_err-add_attribute-clause-refused
returns-in_err-add_attribute-clause-refused c =
    let p = err_from_is_err_and c.from_residual.result c.from_residual.ensures.1 in
    rw (p.1, p.2) (tells_item (with_tests c.args.negated c.args.attrs.now) c.loop-attribute.done c.args.written.now c.loop-attribute.attribute-index c.attribute-item.result _ _ c.in_err-add_attribute.ensures.refused c.attribute-item.is c.loop-attribute-test.true c.loop-attribute.invariant.same)
