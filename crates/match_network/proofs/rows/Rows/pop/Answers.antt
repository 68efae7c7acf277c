-- The places of the last row go.
use Rattle.std.proofs.Common.{◌≡◌, ◌-◌, ◌<◌, ap, arith, length, subst, suc, sym, take, ◌∙◌}
use Rattle.match_network.specs.RowTable.{RowTable, rows_in}
use Rattle.match_network.proofs.TableLemmas.{length-rows_in, rows_in-pop}
use Rattle.match_network.proofs.rows.Rows.pop.Goals as goal

pub returns-clause-rows : goal.returns-clause-rows
returns-clause-rows c =
    let inside = c.self.inside in
    let rows = subst (λ (t : RowTable). 0 < length t.rows) (sym c.self.view_is) c.requires in
    let some : inside.count ≡ suc (inside.count - 1) = omega (arith, rows, length-rows_in inside.width inside.count inside.places.items) in
    subst (λ (t : RowTable). rows_in inside.width c.truncate.new.self.items (inside.count - 1) ≡ take (length t.rows - 1) t.rows) c.self.view_is
    (ap (λ ps. rows_in inside.width ps (inside.count - 1)) c.truncate.ensures.items
    ∙ rows_in-pop inside.width (inside.count - 1) inside.places.items
    ∙ ap (λ n. take (inside.count - 1) (rows_in inside.width inside.places.items n)) (sym some)
    ∙ ap (λ n. take (n - 1) (rows_in inside.width inside.places.items inside.count)) (sym (length-rows_in inside.width inside.count inside.places.items)))
