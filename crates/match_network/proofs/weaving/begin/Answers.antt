-- The place begins alone, or with the rows before it.
use Rattle.std.proofs.Common.{◌≡◌, ◌+◌, ◌-◌, ◌<◌, ◌∷◌, [], ap, arith, drop, length, map, refl, set, subst, sym, true, ◌∙◌}
use Rattle.std.specs.List.{AllByRecursion}
use Rattle.std.specs.Result.{OnErr, OnOk}
use Rattle.match_network.specs.Arrivals.{Arrivals}
use Rattle.match_network.specs.Conditions.{AreFiled, IsGiven, IsGivenPart, joins_of, level_at, rows_of}
use Rattle.match_network.specs.Filed.{IsFiled, only, passes_at, with_rows}
use Rattle.match_network.specs.Joining.{extended}
use Rattle.match_network.specs.Woven.{joined, made, with_place}
use Rattle.match_network.proofs.ComeLemmas.{joined-come}
use Rattle.match_network.proofs.FiledLemmas.{passed_came}
use Rattle.match_network.proofs.GivenLemmas.{Begun, begun_alone, begun_joined, begun_part, by_result, joined-widths, made_joined, on_err, on_ok}
use Rattle.match_network.proofs.SoFarLemmas.{drop_from}
use Rattle.match_network.proofs.weaving.begin.Goals as goal

pub begin_alone-requires-clause-place : goal.begin_alone-requires-clause-place
begin_alone-requires-clause-place g c =
    let joins = c.args.conditions.now.joins.now in
    let levels = c.args.levels.now in
    let a = c.stage-stage.result.arrivals.now in
    let join = c.stage-stage.result.join.now in
    let next = c.stage-stage.result.next.now in
    let there = c.stage-stage.ensures.join in
    let same = c.stage-stage.ensures.arrivals in
    let held = subst (λ (b : Arrivals). AreFiled joins b.came b.places levels) (sym same) c.requires.filed in
    let passed = subst (λ (b : Arrivals). passes_at join b.came c.args.place ≡ true) (sym same) (c.requires.passes join there) in
    passed_came join a.came c.args.place passed

pub begin_joined-requires-clause-filed : goal.begin_joined-requires-clause-filed
begin_joined-requires-clause-filed g c =
    let joins = c.args.conditions.now.joins.now in
    let levels = c.args.levels.now in
    let a = c.stage-stage.result.arrivals.now in
    let join = c.stage-stage.result.join.now in
    let next = c.stage-stage.result.next.now in
    let there = c.stage-stage.ensures.join in
    let same = c.stage-stage.ensures.arrivals in
    let held = subst (λ (b : Arrivals). AreFiled joins b.came b.places levels) (sym same) c.requires.filed in
    let some : 0 < c.args.at = omega (arith, c.if-at-eq0.false) in
    let old = held.each (c.args.at - 1) (omega (arith, c.requires.at, held.count)) in
    let follows : drop ((c.args.at - 1) + 1) joins ≡ join ∷ next =
    ap (λ n. drop n joins) (let back : (c.args.at - 1) + 1 ≡ c.args.at = omega (arith, some) in back) ∙ drop_from joins c.args.at join there ∙ ap (λ js. join ∷ js) (sym c.stage-stage.ensures.next) in
    subst (λ js. IsFiled js a.came a.places (level_at levels (c.args.at - 1))) follows old.filed

pub returns-then-at-eq0-clause-ok : goal.returns-then-at-eq0-clause-ok
returns-then-at-eq0-clause-ok g c =
    let joins = c.args.conditions.now.joins.now in
    let levels = c.args.levels.now in
    let a = c.stage-stage.result.arrivals.now in
    let join = c.stage-stage.result.join.now in
    let next = c.stage-stage.result.next.now in
    let there = c.stage-stage.ensures.join in
    let same = c.stage-stage.ensures.arrivals in
    let held = subst (λ (b : Arrivals). AreFiled joins b.came b.places levels) (sym same) c.requires.filed in
    let passed = subst (λ (b : Arrivals). passes_at join b.came c.args.place ≡ true) (sym same) (c.requires.passes join there) in
    let new = c.begin_alone.new.levels in
    let begun : new ≡ set levels 0 (with_rows next a.came (level_at levels 0) (extended join a.came [] (c.args.place ∷ []))) → Begun joins a.came a.places c.args.place c.args.at levels new =
    begun_alone joins next join a.came a.places c.args.place c.args.at levels new c.if-at-eq0.true held c.requires.at there c.stage-stage.ensures.next passed in
    subst (λ (b : Arrivals). OnOk c.begin_alone.result (IsGiven (c.args.at + 1) (rows_of levels) (rows_of new) (made (joins_of joins) b.came b.places c.args.place (rows_of levels c.args.at) 0))) same
    (on_ok c.begin_alone.result (λ is. (begun is).given) c.begin_alone.ensures.ok)

pub returns-then-at-eq0-clause-filed : goal.returns-then-at-eq0-clause-filed
returns-then-at-eq0-clause-filed g c =
    let joins = c.args.conditions.now.joins.now in
    let levels = c.args.levels.now in
    let a = c.stage-stage.result.arrivals.now in
    let join = c.stage-stage.result.join.now in
    let next = c.stage-stage.result.next.now in
    let there = c.stage-stage.ensures.join in
    let same = c.stage-stage.ensures.arrivals in
    let held = subst (λ (b : Arrivals). AreFiled joins b.came b.places levels) (sym same) c.requires.filed in
    let passed = subst (λ (b : Arrivals). passes_at join b.came c.args.place ≡ true) (sym same) (c.requires.passes join there) in
    let new = c.begin_alone.new.levels in
    let begun : new ≡ set levels 0 (with_rows next a.came (level_at levels 0) (extended join a.came [] (c.args.place ∷ []))) → Begun joins a.came a.places c.args.place c.args.at levels new =
    begun_alone joins next join a.came a.places c.args.place c.args.at levels new c.if-at-eq0.true held c.requires.at there c.stage-stage.ensures.next passed in
    subst (λ (b : Arrivals). AreFiled joins b.came b.places new) same
    (by_result c.begin_alone.result c.begin_alone.ensures.ok c.begin_alone.ensures.err (λ is. (begun is).filed) (λ is. subst (AreFiled joins a.came a.places) (sym is) held))

pub returns-else-at-eq0-clause-ok : goal.returns-else-at-eq0-clause-ok
returns-else-at-eq0-clause-ok g c =
    let joins = c.args.conditions.now.joins.now in
    let levels = c.args.levels.now in
    let a = c.stage-stage.result.arrivals.now in
    let join = c.stage-stage.result.join.now in
    let next = c.stage-stage.result.next.now in
    let there = c.stage-stage.ensures.join in
    let same = c.stage-stage.ensures.arrivals in
    let held = subst (λ (b : Arrivals). AreFiled joins b.came b.places levels) (sym same) c.requires.filed in
    let passed = subst (λ (b : Arrivals). passes_at join b.came c.args.place ≡ true) (sym same) (c.requires.passes join there) in
    let some : 0 < c.args.at = omega (arith, c.if-at-eq0.false) in
    let new = c.begin_joined.new.levels in
    let old = held.each (c.args.at - 1) (omega (arith, c.requires.at, held.count)) in
    let rows = map (with_place c.args.place) (joined (only join) a.came a.places c.args.place (level_at levels (c.args.at - 1)).rows) in
    let widths : AllByRecursion (λ row. length row ≡ c.args.at + 1) rows =
    joined-widths (only join) a.came a.places c.args.place c.args.at (level_at levels (c.args.at - 1)).rows
    (subst (λ n. AllByRecursion (λ row. length row ≡ n) (level_at levels (c.args.at - 1)).rows) (let back : (c.args.at - 1) + 1 ≡ c.args.at = omega (arith, some) in back) old.widths) in
    let come = joined-come (only join) a.came a.places c.args.place (level_at levels (c.args.at - 1)).rows (passed_came join a.came c.args.place passed) old.have_come in
    let whole = made_joined joins join a.came a.places c.args.place c.args.at levels some held c.requires.at there in
    subst (λ (b : Arrivals). OnOk c.begin_joined.result (IsGiven (c.args.at + 1) (rows_of levels) (rows_of new) (made (joins_of joins) b.came b.places c.args.place (rows_of levels c.args.at) 0))) same
    (subst (λ rs. OnOk c.begin_joined.result (IsGiven (c.args.at + 1) (rows_of levels) (rows_of new) rs)) whole
    (on_ok c.begin_joined.result (λ is. (begun_joined joins next join a.came a.places c.args.at levels new (with_rows next a.came (level_at levels c.args.at) rows) rows some held c.requires.at there c.stage-stage.ensures.next widths come refl is).0) c.begin_joined.ensures.ok))

pub returns-else-at-eq0-clause-err : goal.returns-else-at-eq0-clause-err
returns-else-at-eq0-clause-err g c =
    let joins = c.args.conditions.now.joins.now in
    let levels = c.args.levels.now in
    let a = c.stage-stage.result.arrivals.now in
    let join = c.stage-stage.result.join.now in
    let next = c.stage-stage.result.next.now in
    let there = c.stage-stage.ensures.join in
    let same = c.stage-stage.ensures.arrivals in
    let held = subst (λ (b : Arrivals). AreFiled joins b.came b.places levels) (sym same) c.requires.filed in
    let passed = subst (λ (b : Arrivals). passes_at join b.came c.args.place ≡ true) (sym same) (c.requires.passes join there) in
    let some : 0 < c.args.at = omega (arith, c.if-at-eq0.false) in
    let new = c.begin_joined.new.levels in
    let old = held.each (c.args.at - 1) (omega (arith, c.requires.at, held.count)) in
    let rows = map (with_place c.args.place) (joined (only join) a.came a.places c.args.place (level_at levels (c.args.at - 1)).rows) in
    let widths : AllByRecursion (λ row. length row ≡ c.args.at + 1) rows =
    joined-widths (only join) a.came a.places c.args.place c.args.at (level_at levels (c.args.at - 1)).rows
    (subst (λ n. AllByRecursion (λ row. length row ≡ n) (level_at levels (c.args.at - 1)).rows) (let back : (c.args.at - 1) + 1 ≡ c.args.at = omega (arith, some) in back) old.widths) in
    let come = joined-come (only join) a.came a.places c.args.place (level_at levels (c.args.at - 1)).rows (passed_came join a.came c.args.place passed) old.have_come in
    let whole = made_joined joins join a.came a.places c.args.place c.args.at levels some held c.requires.at there in
    subst (λ (b : Arrivals). OnErr c.begin_joined.result (IsGivenPart (c.args.at + 1) (rows_of levels) (rows_of new) (made (joins_of joins) b.came b.places c.args.place (rows_of levels c.args.at) 0))) same
    (subst (λ rs. OnErr c.begin_joined.result (IsGivenPart (c.args.at + 1) (rows_of levels) (rows_of new) rs)) whole
    (on_err c.begin_joined.result (λ is. (begun_part joins next join a.came a.places c.args.at levels new rows some held c.requires.at there c.stage-stage.ensures.next widths come is.0 is.1 is.2).0) c.begin_joined.ensures.err))

pub returns-else-at-eq0-clause-filed : goal.returns-else-at-eq0-clause-filed
returns-else-at-eq0-clause-filed g c =
    let joins = c.args.conditions.now.joins.now in
    let levels = c.args.levels.now in
    let a = c.stage-stage.result.arrivals.now in
    let join = c.stage-stage.result.join.now in
    let next = c.stage-stage.result.next.now in
    let there = c.stage-stage.ensures.join in
    let same = c.stage-stage.ensures.arrivals in
    let held = subst (λ (b : Arrivals). AreFiled joins b.came b.places levels) (sym same) c.requires.filed in
    let passed = subst (λ (b : Arrivals). passes_at join b.came c.args.place ≡ true) (sym same) (c.requires.passes join there) in
    let some : 0 < c.args.at = omega (arith, c.if-at-eq0.false) in
    let new = c.begin_joined.new.levels in
    let old = held.each (c.args.at - 1) (omega (arith, c.requires.at, held.count)) in
    let rows = map (with_place c.args.place) (joined (only join) a.came a.places c.args.place (level_at levels (c.args.at - 1)).rows) in
    let widths : AllByRecursion (λ row. length row ≡ c.args.at + 1) rows =
    joined-widths (only join) a.came a.places c.args.place c.args.at (level_at levels (c.args.at - 1)).rows
    (subst (λ n. AllByRecursion (λ row. length row ≡ n) (level_at levels (c.args.at - 1)).rows) (let back : (c.args.at - 1) + 1 ≡ c.args.at = omega (arith, some) in back) old.widths) in
    let come = joined-come (only join) a.came a.places c.args.place (level_at levels (c.args.at - 1)).rows (passed_came join a.came c.args.place passed) old.have_come in
    let whole = made_joined joins join a.came a.places c.args.place c.args.at levels some held c.requires.at there in
    subst (λ (b : Arrivals). AreFiled joins b.came b.places new) same
    (by_result c.begin_joined.result c.begin_joined.ensures.ok c.begin_joined.ensures.err
    (λ is. (begun_joined joins next join a.came a.places c.args.at levels new (with_rows next a.came (level_at levels c.args.at) rows) rows some held c.requires.at there c.stage-stage.ensures.next widths come refl is).1)
    (λ is. (begun_part joins next join a.came a.places c.args.at levels new rows some held c.requires.at there c.stage-stage.ensures.next widths come is.0 is.1 is.2).1))
