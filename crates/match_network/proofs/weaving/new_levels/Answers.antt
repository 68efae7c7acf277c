-- One level more.
use Rattle.std.proofs.Common.{◌≡◌, [], ◌∷◌, ◌++◌, ap, arith, length, ◌∙◌}
use Rattle.match_network.specs.Filed.{LevelRows}
use Rattle.match_network.proofs.StartLemmas.{AreEmpty-push, empty_filed, empty_right}
use Rattle.match_network.proofs.weaving.new_levels.Goals as goal

pub loop-number-preserved : goal.loop-number-preserved
loop-number-preserved c =
    AreEmpty-push c.loop-number.levels.items c.push.new.self.items c.loop-number.number c.loop-number.invariant
    (c.in_ok-push.ensures.items ∙ ap (λ (l : LevelRows). c.loop-number.levels.items ++ l ∷ []) c.new.ensures)

pub returns-clause-levels : goal.returns-clause-levels
returns-clause-levels c = empty_right c.args.joins.now c.loop-number.levels.items c.loop-number.number c.loop-number.invariant

pub returns-clause-filed : goal.returns-clause-filed
returns-clause-filed c =
    empty_filed c.args.joins.now c.loop-number.levels.items c.loop-number.number c.loop-number.invariant
    (let all : c.loop-number.number ≡ length c.args.joins.now = omega (arith, c.loop-number-test.false, c.loop-number.auto.number-end) in all)
