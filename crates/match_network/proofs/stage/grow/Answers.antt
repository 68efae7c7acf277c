-- One row more.
use Rattle.std.proofs.Common.{ℕ, ◌+◌, ◌≤◌, ◌++◌, List, ap, arith, drop, length, map, subst, sym, true, ◌∙◌}
use Rattle.std.proofs.lemmas.Result.{err_from_is_err_and}
use Rattle.rule_base.proofs.EachLemmas.{Each-slice_get}
use Rattle.match_network.specs.Filed.{LevelRows, only}
use Rattle.match_network.specs.Levels.{HaveCome}
use Rattle.match_network.specs.SoFar.{IsPart, IsSoFar}
use Rattle.match_network.specs.Woven.{grown, offered, with_place}
use Rattle.match_network.proofs.StoreLemmas.{AreCleaned-more, AreCleaned-none, IsServed-cleaned}
use Rattle.match_network.proofs.SoFarLemmas.{grown-end, grown-from, so_far_all, so_far_more, so_far_next, so_far_none}
use Rattle.match_network.proofs.TriedLemmas.{pairs_tried-from}
use Rattle.match_network.proofs.stage.grow.Goals as goal

pub loop-number-init : goal.loop-number-init
loop-number-init g c =
    let stage = c.args.stage.now in
    record {
      so_far = so_far_none stage.next.now stage.arrivals.now.came c.args.after.now (grown (only stage.join.now) stage.arrivals.now.came stage.arrivals.now.places (drop c.args.first c.args.from.now.rows));
      stores = AreCleaned-none stage.arrivals.now.places c.args.alpha.now;
      width = c.requires.width;
      steps = omega arith;
    }

pub extend_row-requires-clause-served : goal.extend_row-requires-clause-served
extend_row-requires-clause-served g c =
    let stage = c.args.stage.now in
    IsServed-cleaned stage.join.now true stage.arrivals.now.came stage.arrivals.now.places c.args.alpha.now c.loop-number.alpha c.args.store c.loop-number.invariant.stores c.requires.served

pub extend_row-requires-clause-come : goal.extend_row-requires-clause-come
extend_row-requires-clause-come g c =
    let came = c.args.stage.now.arrivals.now.came in
    Each-slice_get (HaveCome came) c.args.from.now.rows c.loop-number.number c.at.result.now c.requires.come c.at.ensures.row

pub returns-in_err-extend_row-clause-err : goal.returns-in_err-extend_row-clause-err
returns-in_err-extend_row-clause-err g c =
    let stage = c.args.stage.now in
    let came = stage.arrivals.now.came in
    let places = stage.arrivals.now.places in
    let l = c.loop-number in
    let rows = c.args.from.now.rows in
    let all = grown (only stage.join.now) came places (drop c.args.first rows) in
    let first = map (λ p. with_place p c.at.result.now) (offered (only stage.join.now) came places c.at.result.now) in
    let left = grown (only stage.join.now) came places (drop (l.number + 1) rows) in
    let before = subst (λ (rs : List (List ℕ)). IsSoFar stage.next.now came c.args.after.now l.after all rs) (grown-from (only stage.join.now) came places rows l.number c.at.result.now c.at.ensures.row) l.invariant.so_far in
    let more : IsPart stage.next.now came l.after c.extend_row.new.after first = c.in_err-extend_row.ensures.err in
    let part : IsPart stage.next.now came c.args.after.now c.extend_row.new.after all =
    (more.0 ++ left, so_far_more stage.next.now came c.args.after.now l.after c.extend_row.new.after all first left more.0 before more.1) in
    let out = err_from_is_err_and c.from_residual.result c.from_residual.ensures.1 in
    rw out.1 part

pub returns-in_err-extend_row-clause-stores : goal.returns-in_err-extend_row-clause-stores
returns-in_err-extend_row-clause-stores g c =
    AreCleaned-more c.args.stage.now.arrivals.now.places c.args.alpha.now c.loop-number.alpha c.extend_row.new.alpha c.loop-number.invariant.stores c.in_err-extend_row.ensures.stores

pub loop-number-preserved : goal.loop-number-preserved
loop-number-preserved g c =
    let stage = c.args.stage.now in
    let came = stage.arrivals.now.came in
    let places = stage.arrivals.now.places in
    let l = c.loop-number in
    let rows = c.args.from.now.rows in
    let all = grown (only stage.join.now) came places (drop c.args.first rows) in
    let first = map (λ p. with_place p c.at.result.now) (offered (only stage.join.now) came places c.at.result.now) in
    let left = grown (only stage.join.now) came places (drop (l.number + 1) rows) in
    let before = subst (λ (rs : List (List ℕ)). IsSoFar stage.next.now came c.args.after.now l.after all rs) (grown-from (only stage.join.now) came places rows l.number c.at.result.now c.at.ensures.row) l.invariant.so_far in
    record {
      so_far = so_far_next stage.next.now came c.args.after.now l.after c.extend_row.new.after all first left before c.in_ok-extend_row.ensures.ok;
      stores = AreCleaned-more places c.args.alpha.now l.alpha c.extend_row.new.alpha l.invariant.stores c.in_ok-extend_row.ensures.stores;
      width = l.invariant.width ∙ sym (ap (λ (level : LevelRows). level.width) c.in_ok-extend_row.ensures.ok);
      steps = omega (arith, pairs_tried-from stage.join.now came places rows l.number c.at.result.now c.at.ensures.row, c.in_ok-extend_row.ensures.steps, l.invariant.steps);
    }

pub returns-clause-ok : goal.returns-clause-ok
returns-clause-ok g c =
    let stage = c.args.stage.now in
    let came = stage.arrivals.now.came in
    let places = stage.arrivals.now.places in
    let l = c.loop-number in
    let rows = c.args.from.now.rows in
    let all = grown (only stage.join.now) came places (drop c.args.first rows) in
    so_far_all stage.next.now came c.args.after.now l.after all
    (subst (λ (rs : List (List ℕ)). IsSoFar stage.next.now came c.args.after.now l.after all rs)
    (grown-end (only stage.join.now) came places rows l.number (let past : length rows ≤ l.number = omega (arith, c.len-number-end.ensures.value, c.loop-number-test.false) in past)) l.invariant.so_far)

pub returns-in_err-extend_row-clause-steps : goal.returns-in_err-extend_row-clause-steps
returns-in_err-extend_row-clause-steps g c =
    let stage = c.args.stage.now in
    let l = c.loop-number in
    omega (arith, pairs_tried-from stage.join.now stage.arrivals.now.came stage.arrivals.now.places c.args.from.now.rows l.number c.at.result.now c.at.ensures.row, c.in_err-extend_row.ensures.steps, l.invariant.steps)
