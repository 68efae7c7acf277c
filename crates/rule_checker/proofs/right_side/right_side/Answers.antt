-- One action at a time.
use Rattle.std.proofs.lemmas.Result.{err_from_is_err_and}
use Rattle.rule_checker.specs.RightSide.{with_action}
use Rattle.rule_checker.proofs.WalkLemmas.{tells_item}
use Rattle.rule_checker.proofs.right_side.right_side.Goals as goal

pub returns-in_err-add_next-clause-refused : goal.returns-in_err-add_next-clause-refused
returns-in_err-add_next-clause-refused c =
    let p = err_from_is_err_and c.from_residual.result c.from_residual.ensures.1 in
    rw (p.1, p.2) (tells_item (with_action c.args.classes.now c.args.elements.now) c.loop-action.right c.args.actions.now c.loop-action.action-index c.action-item.result _ _ c.in_err-add_next.ensures.refused c.action-item.is c.loop-action-test.true c.loop-action.invariant.same)
