-- All makes have been counted.
use Rattle.std.proofs.Common.{◌≡◌, [], drop, ap, arith, ◌∙◌}
use Rattle.std.proofs.Math.ListN.{drop_of_length-le}
use Rattle.rule_base.proofs.EffectLemmas.{length-born, makes}
use Rattle.rhs_actions.specs.EffectPlaces.{changes_in}
use Rattle.rhs_actions.proofs.effect.makes.Goals as goal

pub returns : goal.returns
returns c next =
    let places = c.args.changes.now in
    let none : drop c.loop-change.change-index places ≡ [] = drop_of_length-le places c.loop-change-test.false in
    let left : makes (changes_in [] (drop c.loop-change.change-index places)) ≡ 0 = ap (λ ps. makes (changes_in [] ps)) none in
    length-born next (changes_in [] places) ∙ omega (arith, c.loop-change.invariant.counted, left)
