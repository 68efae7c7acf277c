-- The row lies behind the others.
use Rattle.std.proofs.Common.{◌≡◌, ℕ, List, length, length-append, sym, ◌+◌, [], ◌∷◌, ◌++◌, ap, subst, ◌∙◌}
use Rattle.match_network.specs.RowTable.{RowTable, rows_in, with_row}
use Rattle.match_network.proofs.TableLemmas.{rows_in-pushed}
use Rattle.match_network.proofs.rows.Rows.push_extended.Goals as goal

abbrev the_table : ℕ → List (List ℕ) → RowTable
the_table width rows = record { width = width; rows = rows }

pub returns-clause-ok : goal.returns-clause-ok
returns-clause-ok c =
    let inside = c.self.inside in
    let row = c.args.row.now ++ c.args.place ∷ [] in
    let width : length row ≡ inside.width = length-append c.args.row.now (c.args.place ∷ []) ∙ c.requires ∙ sym (ap (λ (t : RowTable). t.width) c.self.view_is) in
    subst (λ (t : RowTable). the_table inside.width (rows_in inside.width c.push_both.new.places.items (inside.count + 1)) ≡ with_row t row) c.self.view_is
    (ap (the_table inside.width) (rows_in-pushed inside.width inside.count inside.places.items row c.push_both.new.places.items c.self.invariant.full width c.in_ok-push_both.ensures.ok))
