-- One level more is packed.
use Rattle.std.proofs.Common.{◌<◌, ◌≤◌, List, arith, length, subst, sym}
use Rattle.match_network.specs.Conditions.{AreFiled, rows_of}
use Rattle.match_network.specs.Filed.{LevelRows}
use Rattle.match_network.specs.Packing.{IsPartlyPacked}
use Rattle.match_network.proofs.PackingLemmas.{IsPackedTo-all, IsPackedTo-more, IsPackedTo-none, IsPackedTo-part}
use Rattle.match_network.proofs.packing.pack_levels.Goals as goal

pub loop-number-init : goal.loop-number-init
loop-number-init c =
    let a = c.args.arrivals.now in
    IsPackedTo-none c.args.joins.now a.came a.places c.args.levels.now c.requires.filed

pub pack_level-requires-clause-number : goal.pack_level-requires-clause-number
pack_level-requires-clause-number c =
    let l = c.loop-number in
    let lt : l.number < length l.levels = omega (arith, c.loop-number-test.true, l.invariant.filed.count, c.requires.filed.count) in lt

pub returns-in_err-pack_level-clause-rows : goal.returns-in_err-pack_level-clause-rows
returns-in_err-pack_level-clause-rows c =
    let a = c.args.arrivals.now in
    let l = c.loop-number in
    subst (λ (ls : List LevelRows). IsPartlyPacked a.places (rows_of c.args.levels.now) (rows_of ls)) (sym c.in_err-pack_level.ensures.err)
    (IsPackedTo-part c.args.joins.now a.came a.places l.number c.args.levels.now l.levels l.invariant)

pub returns-in_err-pack_level-clause-filed : goal.returns-in_err-pack_level-clause-filed
returns-in_err-pack_level-clause-filed c =
    let a = c.args.arrivals.now in
    subst (AreFiled c.args.joins.now a.came a.places) (sym c.in_err-pack_level.ensures.err) c.loop-number.invariant.filed

pub loop-number-preserved : goal.loop-number-preserved
loop-number-preserved c =
    let a = c.args.arrivals.now in
    let l = c.loop-number in
    let lt : l.number < length l.levels = omega (arith, c.loop-number-test.true, l.invariant.filed.count, c.requires.filed.count) in
    IsPackedTo-more c.args.joins.now a.came a.places l.number c.args.levels.now l.levels c.pack_level.new.levels lt c.in_ok-pack_level.ensures.ok l.invariant

pub returns-clause-ok : goal.returns-clause-ok
returns-clause-ok c =
    let a = c.args.arrivals.now in
    let l = c.loop-number in
    let all : length l.levels ≤ l.number = omega (arith, c.loop-number-test.false, l.invariant.filed.count, c.requires.filed.count) in
    IsPackedTo-all c.args.joins.now a.came a.places l.number c.args.levels.now l.levels all l.invariant

pub returns-clause-rows : goal.returns-clause-rows
returns-clause-rows c =
    let a = c.args.arrivals.now in
    let l = c.loop-number in
    IsPackedTo-part c.args.joins.now a.came a.places l.number c.args.levels.now l.levels l.invariant
