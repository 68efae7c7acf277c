-- The row takes the place, or not.
use Rattle.std.proofs.Common.{◌≡◌, ℕ, ◌<◌, ◌∷◌, [], List, ap, length, subst, sym, ◌∙◌, true, false}
use Rattle.std.specs.Result.{OnOk}
use Rattle.rule_base.proofs.EachLemmas.{Each-append, Each-slice_get}
use Rattle.match_network.specs.Filed.{with_rows}
use Rattle.match_network.specs.Levels.{HaveCome}
use Rattle.match_network.proofs.SoFarLemmas.{taken_one, with_rows-none}
use Rattle.match_network.proofs.stage.take_place.Goals as goal

pub returns-then-not-takes-clause-ok : goal.returns-then-not-takes-clause-ok
returns-then-not-takes-clause-ok g c =
    let stage = c.args.stage.now in
    let came = stage.arrivals.now.came in
    let none = taken_one stage.join.now came c.args.place c.args.before.now.rows c.args.number c.row-row.result.now false c.row-row.ensures.row (sym c.takes.ensures.answer ∙ c.if-not-takes.true) in
    sym (ap (with_rows stage.next.now came c.args.after.now) none ∙ with_rows-none stage.next.now came c.args.after.now)

pub push-requires-clause-come : goal.push-requires-clause-come
push-requires-clause-come g c =
    let came = c.args.stage.now.arrivals.now.came in
    Each-append (λ p. p < length came) c.row-row.result.now (c.args.place ∷ [])
    (Each-slice_get (HaveCome came) c.args.before.now.rows c.args.number c.row-row.result.now c.requires.come c.row-row.ensures.row) (c.requires.place, tt)

pub returns-clause-ok : goal.returns-clause-ok
returns-clause-ok g c =
    let stage = c.args.stage.now in
    let came = stage.arrivals.now.came in
    let one = taken_one stage.join.now came c.args.place c.args.before.now.rows c.args.number c.row-row.result.now true c.row-row.ensures.row (sym c.takes.ensures.answer ∙ c.if-not-takes.false) in
    subst (λ (rows : List (List ℕ)). OnOk c.push.result (c.push.new.self ≡ with_rows stage.next.now came c.args.after.now rows)) (sym one) c.push.ensures.ok
