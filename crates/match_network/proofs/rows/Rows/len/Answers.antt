-- There are as many rows as were counted, and each has the width.
use Rattle.std.proofs.Common.{◌≡◌, length, subst, sym}
use Rattle.std.specs.List.{AllByRecursion}
use Rattle.match_network.specs.RowTable.{RowTable}
use Rattle.match_network.proofs.TableLemmas.{length-rows_in, rows_in-widths}
use Rattle.match_network.proofs.rows.Rows.len.Goals as goal

pub returns-clause-value : goal.returns-clause-value
returns-clause-value c =
    let inside = c.self.inside in
    subst (λ (t : RowTable). inside.count ≡ length t.rows) c.self.view_is (sym (length-rows_in inside.width inside.count inside.places.items))

pub returns-clause-widths : goal.returns-clause-widths
returns-clause-widths c =
    let inside = c.self.inside in
    subst (λ (t : RowTable). AllByRecursion (λ row. length row ≡ t.width) t.rows) c.self.view_is
    (rows_in-widths inside.width inside.count inside.places.items c.self.invariant.full)
