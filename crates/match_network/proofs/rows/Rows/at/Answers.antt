-- The row lies within the places.
use Rattle.std.proofs.Common.{◌≡◌, ◌+◌, ◌-◌, ◌*◌, ◌<◌, Some, drop, length, slice_get, take, ap, arith, subst, sym, ◌∙◌}
use Rattle.match_network.specs.RowTable.{RowTable}
use Rattle.match_network.proofs.TableLemmas.{length-rows_in, row_within, rows_in-at}
use Rattle.match_network.proofs.rows.Rows.at.Goals as goal

pub overflow_mul-start : goal.overflow_mul-start
overflow_mul-start c =
    let inside = c.self.inside in
    let rows = subst (λ (t : RowTable). c.args.row < length t.rows) (sym c.self.view_is) c.requires in
    omega (arith, row_within inside.width inside.count inside.places.items c.args.row c.self.invariant.full rows, inside.places.ok, inside.places.small)

pub overflow_add-result : goal.overflow_add-result
overflow_add-result c =
    let inside = c.self.inside in
    let rows = subst (λ (t : RowTable). c.args.row < length t.rows) (sym c.self.view_is) c.requires in
    omega (arith, row_within inside.width inside.count inside.places.items c.args.row c.self.invariant.full rows, inside.places.ok, inside.places.small)

pub offset_bounds-deref-start : goal.offset_bounds-deref-start
offset_bounds-deref-start c =
    let inside = c.self.inside in
    let rows = subst (λ (t : RowTable). c.args.row < length t.rows) (sym c.self.view_is) c.requires in
    omega (arith, row_within inside.width inside.count inside.places.items c.args.row c.self.invariant.full rows, inside.places.ok, inside.places.small)

pub slice_bounds-result-end : goal.slice_bounds-result-end
slice_bounds-result-end c =
    let inside = c.self.inside in
    let rows = subst (λ (t : RowTable). c.args.row < length t.rows) (sym c.self.view_is) c.requires in
    omega (arith, row_within inside.width inside.count inside.places.items c.args.row c.self.invariant.full rows, ap length c.deref.ensures.value)

pub returns-clause-row : goal.returns-clause-row
returns-clause-row c =
    let inside = c.self.inside in
    let start = c.args.row * inside.width in
    let rows = subst (λ (t : RowTable). c.args.row < length t.rows) (sym c.self.view_is) c.requires in
    let here : slice_get c.args.self.now.rows c.args.row ≡ Some (take inside.width (drop start inside.places.items)) =
    subst (λ (t : RowTable). slice_get t.rows c.args.row ≡ Some (take inside.width (drop start inside.places.items))) c.self.view_is
    (rows_in-at inside.width inside.count inside.places.items c.args.row (omega (arith, rows, length-rows_in inside.width inside.count inside.places.items))) in
    here
    ∙ ap (λ n. Some (take n (drop start inside.places.items))) (let same : inside.width ≡ (start + inside.width) - start = omega arith in same)
    ∙ ap (λ ps. Some (take ((start + inside.width) - start) (drop start ps))) (sym c.deref.ensures.value)
