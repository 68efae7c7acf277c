-- From level to level.
use Rattle.std.proofs.Common.{◌≡◌, ◌+◌, ◌-◌, ◌≤◌, ap, arith, drop, length}
use Rattle.match_network.specs.Conditions.{joins_of, rows_of}
use Rattle.match_network.proofs.ComeLemmas.{some_at}
use Rattle.match_network.proofs.FiledLemmas.{passed_came}
use Rattle.match_network.proofs.GivenLemmas.{rows_come, rows_widths}
use Rattle.match_network.proofs.WayLemmas.{stopped_at_once, stopped_later, way_adds, way_begins, way_ends, way_goes_on}
use Rattle.match_network.specs.Tried.{woven_tried}
use Rattle.match_network.proofs.StoreLemmas.{AreCleaned-more, AreCleaned-none, AreStores-cleaned}
use Rattle.match_network.proofs.TriedLemmas.{tried_more, tried_within}
use Rattle.match_network.proofs.weaving.weave.Goals as goal

pub returns-in_err-first-clause-adds : goal.returns-in_err-first-clause-adds
returns-in_err-first-clause-adds g c =
    let conditions = c.args.conditions.now in
    let all = conditions.joins.now in
    let came = conditions.arrivals.now.came in
    let places = conditions.arrivals.now.places in
    let levels = c.args.levels.now in
    let this = some_at all c.args.at c.requires.at in
    let lt = passed_came this.item came c.args.place (c.requires.passes this.item this.is) in
    let come = rows_come all came places c.args.at levels c.requires.filed (let le : c.args.at ≤ length all = omega (arith, c.requires.at) in le) in
    stopped_at_once (joins_of all) came places c.args.place c.args.at (rows_of levels) (rows_of c.begin.new.levels) lt c.requires.below come c.in_err-first.ensures.err

pub returns-in_err-first-clause-stores : goal.returns-in_err-first-clause-stores
returns-in_err-first-clause-stores g c = AreCleaned-none c.args.conditions.now.arrivals.now.places c.args.alpha.now

pub loop-number-init : goal.loop-number-init
loop-number-init g c =
    let conditions = c.args.conditions.now in
    let all = conditions.joins.now in
    let came = conditions.arrivals.now.came in
    let places = conditions.arrivals.now.places in
    let levels = c.args.levels.now in
    let this = some_at all c.args.at c.requires.at in
    let lt = passed_came this.item came c.args.place (c.requires.passes this.item this.is) in
    let come = rows_come all came places c.args.at levels c.requires.filed (let le : c.args.at ≤ length all = omega (arith, c.requires.at) in le) in
    record {
      way = way_begins (joins_of all) came places c.args.place c.args.at (rows_of levels) (rows_of c.begin.new.levels) c.in_ok-first.first c.in_ok-first.ensures.ok c.in_ok-first.ensures.count;
      filed = c.in_ok-first.ensures.filed;
      cleaned = AreCleaned-none places c.args.alpha.now;
      steps = omega (arith, c.in_ok-first.ensures.steps, ap (woven_tried all came places c.args.place c.args.at (rows_of levels c.args.at)) (let none : 0 ≡ c.args.at + 1 - (c.args.at + 1) = omega arith in none));
    }

pub continue_at-requires-clause-stores : goal.continue_at-requires-clause-stores
continue_at-requires-clause-stores g c =
    let conditions = c.args.conditions.now in
    AreStores-cleaned conditions.joins.now conditions.arrivals.now.came conditions.arrivals.now.places conditions.stores.now c.args.alpha.now c.loop-number.alpha c.loop-number.invariant.cleaned c.requires.stores

pub returns-in_err-first-2-clause-adds : goal.returns-in_err-first-2-clause-adds
returns-in_err-first-2-clause-adds g c =
    let conditions = c.args.conditions.now in
    let all = conditions.joins.now in
    let came = conditions.arrivals.now.came in
    let places = conditions.arrivals.now.places in
    let levels = c.args.levels.now in
    let this = some_at all c.args.at c.requires.at in
    let lt = passed_came this.item came c.args.place (c.requires.passes this.item this.is) in
    let come = rows_come all came places c.args.at levels c.requires.filed (let le : c.args.at ≤ length all = omega (arith, c.requires.at) in le) in
    let l = c.loop-number in
    stopped_later (joins_of all) came places c.args.place c.args.at (rows_of levels) (rows_of l.levels) (rows_of c.continue_at.new.levels) l.number l.first lt c.requires.below come l.invariant.way c.in_err-first-2.ensures.err

pub returns-in_err-first-2-clause-stores : goal.returns-in_err-first-2-clause-stores
returns-in_err-first-2-clause-stores g c =
    AreCleaned-more c.args.conditions.now.arrivals.now.places c.args.alpha.now c.loop-number.alpha c.continue_at.new.alpha c.loop-number.invariant.cleaned c.in_err-first-2.ensures.stores

pub loop-number-preserved : goal.loop-number-preserved
loop-number-preserved g c =
    let conditions = c.args.conditions.now in
    let all = conditions.joins.now in
    let came = conditions.arrivals.now.came in
    let places = conditions.arrivals.now.places in
    let levels = c.args.levels.now in
    let this = some_at all c.args.at c.requires.at in
    let lt = passed_came this.item came c.args.place (c.requires.passes this.item this.is) in
    let come = rows_come all came places c.args.at levels c.requires.filed (let le : c.args.at ≤ length all = omega (arith, c.requires.at) in le) in
    let l = c.loop-number in
    record {
      way = way_goes_on (joins_of all) came places c.args.place c.args.at (rows_of levels) (rows_of l.levels) (rows_of c.continue_at.new.levels) l.number l.first c.in_ok-first-2.first l.invariant.way c.in_ok-first-2.ensures.ok c.in_ok-first-2.ensures.count;
      filed = c.in_ok-first-2.ensures.filed;
      cleaned = AreCleaned-more places c.args.alpha.now l.alpha c.continue_at.new.alpha l.invariant.cleaned c.in_ok-first-2.ensures.stores;
      steps = omega (arith, l.invariant.steps, c.in_ok-first-2.ensures.steps, tried_more all came places c.args.place c.args.at (rows_of levels c.args.at) (drop l.first (rows_of l.levels l.number)) l.number l.invariant.way.past l.invariant.way.last);
    }

pub returns-clause-ok : goal.returns-clause-ok
returns-clause-ok g c =
    let conditions = c.args.conditions.now in
    let all = conditions.joins.now in
    let came = conditions.arrivals.now.came in
    let places = conditions.arrivals.now.places in
    let levels = c.args.levels.now in
    let this = some_at all c.args.at c.requires.at in
    let lt = passed_came this.item came c.args.place (c.requires.passes this.item this.is) in
    let come = rows_come all came places c.args.at levels c.requires.filed (let le : c.args.at ≤ length all = omega (arith, c.requires.at) in le) in
    let l = c.loop-number in
    way_ends all came places c.args.place c.args.at (rows_of levels) (rows_of l.levels) l.number l.first
    (rows_widths all came places c.args.at levels c.requires.filed (let le : c.args.at ≤ length all = omega (arith, c.requires.at) in le))
    l.invariant.way c.requires.at (let past : length all ≤ l.number = omega (arith, c.loop-number-test.false) in past)

pub returns-clause-adds : goal.returns-clause-adds
returns-clause-adds g c =
    let conditions = c.args.conditions.now in
    let all = conditions.joins.now in
    let came = conditions.arrivals.now.came in
    let places = conditions.arrivals.now.places in
    let levels = c.args.levels.now in
    let this = some_at all c.args.at c.requires.at in
    let lt = passed_came this.item came c.args.place (c.requires.passes this.item this.is) in
    let come = rows_come all came places c.args.at levels c.requires.filed (let le : c.args.at ≤ length all = omega (arith, c.requires.at) in le) in
    let l = c.loop-number in
    way_adds all came places c.args.place c.args.at (rows_of levels) (rows_of l.levels) l.number l.first lt c.requires.below come l.invariant.way

pub returns-in_err-first-clause-steps : goal.returns-in_err-first-clause-steps
returns-in_err-first-clause-steps g c =
    let conditions = c.args.conditions.now in
    let all = conditions.joins.now in
    omega (arith, c.in_err-first.ensures.steps, tried_within all conditions.arrivals.now.came conditions.arrivals.now.places c.args.place c.args.at (rows_of c.args.levels.now c.args.at) 0 (length all - (c.args.at + 1)) (omega arith))

pub returns-in_err-first-2-clause-steps : goal.returns-in_err-first-2-clause-steps
returns-in_err-first-2-clause-steps g c =
    let conditions = c.args.conditions.now in
    let all = conditions.joins.now in
    let came = conditions.arrivals.now.came in
    let places = conditions.arrivals.now.places in
    let rows = rows_of c.args.levels.now c.args.at in
    let l = c.loop-number in
    omega (
      arith,
      l.invariant.steps,
      c.in_err-first-2.ensures.steps,
      tried_more all came places c.args.place c.args.at rows (drop l.first (rows_of l.levels l.number)) l.number l.invariant.way.past l.invariant.way.last,
      tried_within all came places c.args.place c.args.at rows (l.number + 1 - (c.args.at + 1)) (length all - (c.args.at + 1)) (omega (arith, c.loop-number-test.true)),
    )

pub returns-clause-steps : goal.returns-clause-steps
returns-clause-steps g c =
    let conditions = c.args.conditions.now in
    let all = conditions.joins.now in
    let l = c.loop-number in
    omega (
      arith,
      l.invariant.steps,
      ap (woven_tried all conditions.arrivals.now.came conditions.arrivals.now.places c.args.place c.args.at (rows_of c.args.levels.now c.args.at))
          (let end : l.number - (c.args.at + 1) ≡ length all - (c.args.at + 1) = omega (arith, c.loop-number-test.false, l.auto.number-end, c.requires.at) in end),
    )
