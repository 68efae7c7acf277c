-- An attribute that the class doesn't have ends the settings.
use Rattle.std.proofs.Common.{get_or, sym}
use Rattle.std.proofs.lemmas.Result.{err_from_is_err_and}
use Rattle.rule_checker.specs.Classes.{has_attribute}
use Rattle.rule_checker.specs.Makes.{with_value}
use Rattle.rule_checker.proofs.WalkLemmas.{tells_turn, tells_first, tells_kind}
use Rattle.rule_checker.proofs.makes.values_of.Goals as goal

pub returns-in_err-attr-clause-refused : goal.returns-in_err-attr-clause-refused
returns-in_err-attr-clause-refused c =
    let p = err_from_is_err_and c.from_residual-in_err-attr.result c.from_residual-in_err-attr.ensures.1 in
    let set = get_or c.args.sets.now c.loop-name.name-index _ in
    rw (p.1, p.2)
    (tells_turn (with_value c.args.attrs.now) c.loop-name.values.items c.args.sets.now c.loop-name.name-index _ _ _
    (tells_first (has_attribute c.args.attrs.now set.0) _ _ (tells_kind _ _ (sym c.in_err-attr.ensures.number))) c.loop-name-test.true c.loop-name.invariant.same)
