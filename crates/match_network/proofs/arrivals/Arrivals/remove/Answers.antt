-- Only one place has the tag, or none.
use Rattle.std.proofs.Common.{◌≡◌, ℕ, List, false, arith, subst, sym, ◌∙◌}
use Rattle.std.specs.List.{list_any}
use Rattle.rule_base.specs.declared.element.Element.{Element}
use Rattle.match_network.specs.Arrivals.{Arrivals, has_tag, without_tag}
use Rattle.match_network.proofs.TagLemmas.{any_has_tag, has_tag-within, left_all, left_places, none_has_tag, still_arrived}
use Rattle.match_network.proofs.arrivals.Arrivals.remove.Goals as goal

abbrev the_arrivals : List Element → List ℕ → Arrivals
the_arrivals came places = record { came = came; places = places }

pub returns-in_err-place-clause-left : goal.returns-in_err-place-clause-left
returns-in_err-place-clause-left c =
    let inside = c.self.inside in
    subst (λ (a : Arrivals). a ≡ without_tag a c.args.tag) c.self.view_is (left_all inside.elements c.args.tag inside.memory.places c.in_err-place.ensures)

pub returns-in_err-place-clause-found : goal.returns-in_err-place-clause-found
returns-in_err-place-clause-found c =
    let inside = c.self.inside in
    rw c.from_residual.ensures
    (subst (λ (a : Arrivals). list_any (has_tag a.came c.args.tag) a.places ≡ false) c.self.view_is (none_has_tag inside.elements c.args.tag inside.memory.places c.in_err-place.ensures))

pub invariant_of-self : goal.invariant_of-self
invariant_of-self c =
    let inside = c.self.inside in
    still_arrived inside.elements inside.memory.places c.take_out.new.memory.places inside.memory.came c.in_ok-place.place c.take_out.new.memory.came c.self.invariant c.take_out.ensures.places c.take_out.ensures.came

pub returns-then-not-take_out-clause-left : goal.returns-then-not-take_out-clause-left
returns-then-not-take_out-clause-left c =
    let inside = c.self.inside in
    subst (λ (a : Arrivals). the_arrivals inside.elements c.take_out.new.memory.places ≡ without_tag a c.args.tag) c.self.view_is
    (left_places inside.elements c.args.tag c.in_ok-place.place inside.memory.places c.take_out.new.memory.places c.self.invariant.tags c.in_ok-place.ensures c.take_out.ensures.places)

pub returns-then-not-take_out-clause-found : goal.returns-then-not-take_out-clause-found
returns-then-not-take_out-clause-found c =
    let inside = c.self.inside in
    subst (λ (a : Arrivals). list_any (has_tag a.came c.args.tag) a.places ≡ false) c.self.view_is
    (any_has_tag inside.elements c.args.tag c.in_ok-place.place inside.memory.places c.self.invariant.tags c.in_ok-place.ensures ∙ sym c.take_out.ensures.found ∙ c.if-not-take_out.true)

pub overflow_cast-result : goal.overflow_cast-result
overflow_cast-result c =
    let inside = c.self.inside in
    omega (arith, has_tag-within inside.elements c.args.tag c.in_ok-place.place c.in_ok-place.ensures, c.self.invariant.few)

pub invariant_of-self-2 : goal.invariant_of-self-2
invariant_of-self-2 c =
    let inside = c.self.inside in
    still_arrived inside.elements inside.memory.places c.take_out.new.memory.places inside.memory.came c.in_ok-place.place c.take_out.new.memory.came c.self.invariant c.take_out.ensures.places c.take_out.ensures.came

pub returns-clause-left : goal.returns-clause-left
returns-clause-left c =
    let inside = c.self.inside in
    subst (λ (a : Arrivals). the_arrivals inside.elements c.take_out.new.memory.places ≡ without_tag a c.args.tag) c.self.view_is
    (left_places inside.elements c.args.tag c.in_ok-place.place inside.memory.places c.take_out.new.memory.places c.self.invariant.tags c.in_ok-place.ensures c.take_out.ensures.places)
