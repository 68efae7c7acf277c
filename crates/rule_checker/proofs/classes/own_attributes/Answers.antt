-- One attribute at a time.
use Rattle.std.proofs.lemmas.Result.{err_from_is_err_and}
use Rattle.rule_checker.specs.Classes.{with_attribute}
use Rattle.rule_checker.proofs.WalkLemmas.{next_turn, tells_turn}
use Rattle.rule_checker.proofs.classes.own_attributes.Goals as goal

pub returns-in_err-with_attribute-clause-refused : goal.returns-in_err-with_attribute-clause-refused
returns-in_err-with_attribute-clause-refused c =
    let p = err_from_is_err_and c.from_residual.result c.from_residual.ensures.1 in
    rw (p.1, p.2) (tells_turn with_attribute c.loop-name.own c.args.names.now c.loop-name.name-index _ _ _ c.in_err-with_attribute.ensures.refused c.loop-name-test.true c.loop-name.invariant.same)

pub loop-name-preserved : goal.loop-name-preserved
loop-name-preserved c = record {
  same = next_turn with_attribute c.loop-name.own _ c.args.names.now c.loop-name.name-index _ _ c.in_ok-with_attribute.ensures.ok c.loop-name-test.true c.loop-name.invariant.same;
  few = c.in_ok-with_attribute.ensures.few;
}
