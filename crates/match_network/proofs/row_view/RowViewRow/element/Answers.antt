-- The element is that of the place at the position.
use Rattle.std.proofs.Common.{◌≡◌, None, Some, ap, option_and_then, slice_get, subst, sym, ◌∙◌}
use Rattle.rule_base.specs.Views.{element_in}
use Rattle.match_network.specs.Row.{elements_of}
use Rattle.match_network.proofs.ComeLemmas.{elements_of-at, slice_get-here, slice_get-past}
use Rattle.match_network.proofs.row_view.RowViewRow.element.Goals as goal

pub returns-in-Some : goal.returns-in-Some
returns-in-Some c =
    let inside = c.self.inside in
    let came = inside.arrivals.now.came in
    let here : slice_get inside.row.now c.args.condition ≡ Some c.in-Some.place.now = slice_get-here inside.row.now c.args.condition c.in-Some.place.now c.in-Some.ensures.lookup.3.0 (c.in-Some.ensures.lookup.3.1 c.in-Some.place.now) in
    let at : slice_get (elements_of came inside.row.now) c.args.condition ≡ Some (element_in c.at.result) =
    elements_of-at came inside.row.now c.args.condition c.self.invariant ∙ ap (option_and_then (slice_get came)) here ∙ c.at.ensures in
    subst (λ es. Some (element_in c.at.result) ≡ slice_get es c.args.condition) c.self.view_is (sym at)

pub returns-in-None : goal.returns-in-None
returns-in-None c =
    let inside = c.self.inside in
    let came = inside.arrivals.now.came in
    let here : slice_get inside.row.now c.args.condition ≡ None = slice_get-past inside.row.now c.args.condition c.in-None.ensures.lookup.3 in
    let at : slice_get (elements_of came inside.row.now) c.args.condition ≡ None =
    elements_of-at came inside.row.now c.args.condition c.self.invariant ∙ ap (option_and_then (slice_get came)) here in
    subst (λ es. None ≡ slice_get es c.args.condition) c.self.view_is (sym at)
