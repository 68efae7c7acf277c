-- Only one place has the tag, or none.
use Rattle.std.proofs.Common.{◌≡◌, ◌==◌, arith, false, subst, sym, ◌∙◌}
use Rattle.std.specs.List.{list_any}
use Rattle.match_network.specs.Arrivals.{Arrivals, has_tag}
use Rattle.match_network.proofs.TagLemmas.{any_has_tag, has_tag-within, has_tag_only, none_has_tag}
use Rattle.match_network.proofs.arrivals.Arrivals.place_of.Goals as goal

pub returns-in_err-place-clause-found : goal.returns-in_err-place-clause-found
returns-in_err-place-clause-found c =
    let inside = c.self.inside in
    rw c.from_residual.ensures
    (subst (λ (a : Arrivals). list_any (has_tag a.came c.args.tag) a.places ≡ false) c.self.view_is (none_has_tag inside.elements c.args.tag inside.memory.places c.in_err-place.ensures))

pub returns-then-not-has-clause-found : goal.returns-then-not-has-clause-found
returns-then-not-has-clause-found c =
    let inside = c.self.inside in
    subst (λ (a : Arrivals). list_any (has_tag a.came c.args.tag) a.places ≡ false) c.self.view_is
    (any_has_tag inside.elements c.args.tag c.in_ok-place.place inside.memory.places c.self.invariant.tags c.in_ok-place.ensures ∙ sym c.has.ensures ∙ c.if-not-has.true)

pub overflow_cast-result : goal.overflow_cast-result
overflow_cast-result c =
    let inside = c.self.inside in
    omega (arith, has_tag-within inside.elements c.args.tag c.in_ok-place.place c.in_ok-place.ensures, c.self.invariant.few)

pub returns-clause-only : goal.returns-clause-only
returns-clause-only c other =
    let inside = c.self.inside in
    subst (λ (a : Arrivals). has_tag a.came c.args.tag other ≡ (other == c.in_ok-place.place)) c.self.view_is
    (has_tag_only inside.elements c.args.tag c.in_ok-place.place other c.self.invariant.tags c.in_ok-place.ensures)
