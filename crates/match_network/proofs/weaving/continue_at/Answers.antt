-- The level at the number is given what comes of the last rows before it.
use Rattle.std.proofs.Common.{◌≡◌, ◌+◌, ◌-◌, ◌<◌, arith, drop, get_or, length, nat_lt, subst, sym, true}
use Rattle.std.specs.List.{AllByRecursion}
use Rattle.std.specs.Result.{OnErr, OnOk}
use Rattle.match_network.specs.Arrivals.{Arrivals}
use Rattle.match_network.specs.Conditions.{AreCleaned, AreFiled, IsGiven, IsGivenPart, IsServed, joins_of, level_at, rows_of}
use Rattle.match_network.specs.Filed.{only}
use Rattle.match_network.specs.Woven.{grown}
use Rattle.match_network.proofs.GivenLemmas.{by_result, filed_set, get_or-is, given_set, grows, on_err, on_ok, set_part, within-is}
use Rattle.match_network.proofs.StoreLemmas.{past_first}
use Rattle.match_network.proofs.weaving.continue_at.Goals as goal

pub bounds-conditions-number : goal.bounds-conditions-number
bounds-conditions-number g c =
    let found = c.requires.stores c.args.number c.stage-stage.result.join.now c.stage-stage.ensures.join in
    within-is c.args.conditions.now.stores.now c.args.number found.0 found.1

pub go_on-requires-clause-served : goal.go_on-requires-clause-served
go_on-requires-clause-served g c =
    let found = c.requires.stores c.args.number c.stage-stage.result.join.now c.stage-stage.ensures.join in
    let store = get_or c.args.conditions.now.stores.now c.args.number 0 in
    let is : store ≡ found.0 = get_or-is c.args.conditions.now.stores.now c.args.number found.0 0 found.1 in
    subst (λ (b : Arrivals). IsServed c.stage-stage.result.join.now true b.came b.places c.args.alpha.now store) (sym c.stage-stage.ensures.arrivals)
    (subst (λ kept. IsServed c.stage-stage.result.join.now kept c.args.conditions.now.arrivals.now.came c.args.conditions.now.arrivals.now.places c.args.alpha.now store) (past_first c.args.number c.requires.some)
    (subst (λ n. IsServed c.stage-stage.result.join.now (nat_lt 0 c.args.number) c.args.conditions.now.arrivals.now.came c.args.conditions.now.arrivals.now.places c.args.alpha.now n) (sym is) found.2))

pub returns-clause-ok : goal.returns-clause-ok
returns-clause-ok g c =
    let joins = c.args.conditions.now.joins.now in
    let levels = c.args.levels.now in
    let a = c.stage-stage.result.arrivals.now in
    let join = c.stage-stage.result.join.now in
    let next = c.stage-stage.result.next.now in
    let there = c.stage-stage.ensures.join in
    let same = c.stage-stage.ensures.arrivals in
    let held = subst (λ (b : Arrivals). AreFiled joins b.came b.places levels) (sym same) c.requires.filed in
    let below = subst (λ (b : Arrivals). AllByRecursion (λ p. p < length b.came) b.places) (sym same) c.requires.below in
    let grows_so = grows joins join a.came a.places c.args.number c.args.first levels c.requires.some held c.requires.number there below in
    let new = c.go_on.new.levels in
    let rows = grown (only join) a.came a.places (drop c.args.first (level_at levels (c.args.number - 1)).rows) in
    let lt : c.args.number < length levels = omega (arith, held.count, c.requires.number) in
    subst (λ (b : Arrivals). OnOk c.go_on.result (IsGiven (c.args.number + 1) (rows_of levels) (rows_of new) (grown (joins_of joins) b.came b.places (drop c.args.first (rows_of levels c.args.number))))) same
    (subst (λ rs. OnOk c.go_on.result (IsGiven (c.args.number + 1) (rows_of levels) (rows_of new) rs)) grows_so.is
    (on_ok c.go_on.result (λ is. given_set next a.came levels new c.args.number rows lt is) c.go_on.ensures.ok))

pub returns-clause-err : goal.returns-clause-err
returns-clause-err g c =
    let joins = c.args.conditions.now.joins.now in
    let levels = c.args.levels.now in
    let a = c.stage-stage.result.arrivals.now in
    let join = c.stage-stage.result.join.now in
    let next = c.stage-stage.result.next.now in
    let there = c.stage-stage.ensures.join in
    let same = c.stage-stage.ensures.arrivals in
    let held = subst (λ (b : Arrivals). AreFiled joins b.came b.places levels) (sym same) c.requires.filed in
    let below = subst (λ (b : Arrivals). AllByRecursion (λ p. p < length b.came) b.places) (sym same) c.requires.below in
    let grows_so = grows joins join a.came a.places c.args.number c.args.first levels c.requires.some held c.requires.number there below in
    let new = c.go_on.new.levels in
    let rows = grown (only join) a.came a.places (drop c.args.first (level_at levels (c.args.number - 1)).rows) in
    let lt : c.args.number < length levels = omega (arith, held.count, c.requires.number) in
    subst (λ (b : Arrivals). OnErr c.go_on.result (IsGivenPart (c.args.number + 1) (rows_of levels) (rows_of new) (grown (joins_of joins) b.came b.places (drop c.args.first (rows_of levels c.args.number))))) same
    (subst (λ rs. OnErr c.go_on.result (IsGivenPart (c.args.number + 1) (rows_of levels) (rows_of new) rs)) grows_so.is
    (on_err c.go_on.result (λ is. (set_part joins next a.came a.places c.args.number levels new rows held lt c.stage-stage.ensures.next grows_so.widths grows_so.come is.0 is.1 is.2).0) c.go_on.ensures.err))

pub returns-clause-filed : goal.returns-clause-filed
returns-clause-filed g c =
    let joins = c.args.conditions.now.joins.now in
    let levels = c.args.levels.now in
    let a = c.stage-stage.result.arrivals.now in
    let join = c.stage-stage.result.join.now in
    let next = c.stage-stage.result.next.now in
    let there = c.stage-stage.ensures.join in
    let same = c.stage-stage.ensures.arrivals in
    let held = subst (λ (b : Arrivals). AreFiled joins b.came b.places levels) (sym same) c.requires.filed in
    let below = subst (λ (b : Arrivals). AllByRecursion (λ p. p < length b.came) b.places) (sym same) c.requires.below in
    let grows_so = grows joins join a.came a.places c.args.number c.args.first levels c.requires.some held c.requires.number there below in
    let new = c.go_on.new.levels in
    let rows = grown (only join) a.came a.places (drop c.args.first (level_at levels (c.args.number - 1)).rows) in
    let lt : c.args.number < length levels = omega (arith, held.count, c.requires.number) in
    subst (λ (b : Arrivals). AreFiled joins b.came b.places new) same
    (by_result c.go_on.result c.go_on.ensures.ok c.go_on.ensures.err
    (λ is. filed_set joins next a.came a.places levels new c.args.number rows held lt c.stage-stage.ensures.next grows_so.widths grows_so.come is)
    (λ is. (set_part joins next a.came a.places c.args.number levels new rows held lt c.stage-stage.ensures.next grows_so.widths grows_so.come is.0 is.1 is.2).1))

pub returns-clause-stores : goal.returns-clause-stores
returns-clause-stores g c = subst (λ (b : Arrivals). AreCleaned b.places c.args.alpha.now c.go_on.new.alpha) c.stage-stage.ensures.arrivals c.go_on.ensures.stores
