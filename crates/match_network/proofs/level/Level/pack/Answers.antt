-- One row more, if it lives.
use Rattle.std.proofs.Common.{◌+◌, [], ◌∷◌, ap, drop, filter, subst, sym, ◌∙◌}
use Rattle.std.specs.List.{AllByRecursion}
use Rattle.rule_base.proofs.EachLemmas.{Each-slice_get}
use Rattle.match_network.specs.Filed.{LevelRows}
use Rattle.match_network.specs.Levels.{HaveCome}
use Rattle.match_network.specs.Row.{is_living}
use Rattle.match_network.specs.SoFar.{IsSoFar}
use Rattle.match_network.proofs.SoFarLemmas.{filter-from, so_far_next}
use Rattle.match_network.proofs.level.Level.pack.Goals as goal

pub take_living-requires-clause-come : goal.take_living-requires-clause-come
take_living-requires-clause-come c =
    let came = c.args.arrivals.now.came in
    let rows = c.self.inside.rows.rows in
    let come = subst (λ (l : LevelRows). AllByRecursion (HaveCome came) l.rows) (sym c.self.view_is) c.requires.come in
    Each-slice_get (HaveCome came) rows c.loop-number.number c.at.result.now come c.at.ensures.row

pub loop-number-preserved : goal.loop-number-preserved
loop-number-preserved c =
    let next = c.args.next.now in
    let came = c.args.arrivals.now.came in
    let lives = is_living c.args.arrivals.now.places in
    let rows = c.self.inside.rows.rows in
    let l = c.loop-number in
    let row = c.at.result.now in
    let empty : LevelRows = record { width = c.self.inside.rows.width; rows = []; entries = [] } in
    let before = subst (IsSoFar next came empty l.packed (filter lives rows)) (filter-from lives rows l.number row c.at.ensures.row) l.invariant.so_far in
    record {
      so_far = so_far_next next came empty l.packed c.take_living.new.self (filter lives rows) (filter lives (row ∷ [])) (filter lives (drop (l.number + 1) rows)) before c.in_ok-take_living.ensures.ok;
      width = ap (λ (level : LevelRows). level.width) c.in_ok-take_living.ensures.ok ∙ l.invariant.width;
    }
