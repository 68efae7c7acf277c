-- The element that came is taken out again.
use Rattle.std.proofs.Common.{◌+◌, ◌≤◌, [], ◌∷◌, ◌++◌, ap, arith, length, subst, ◌∙◌}
use Rattle.rule_base.specs.Views.{element_in}
use Rattle.match_network.specs.Arrivals.{Arrivals}
use Rattle.match_network.specs.JoinWork.{join_work_of}
use Rattle.match_network.specs.Network.{Network}
use Rattle.match_network.proofs.DueWorkLemmas.{network_work}
use Rattle.match_network.proofs.SetChangeLemmas.{network_undone, places_undone, grow_undone}
use Rattle.match_network.specs.Touched.{AllGrow}
use Rattle.match_network.proofs.network.Network.add.Goals as goal

pub invariant_of-self-in-Err : goal.invariant_of-self-in-Err
invariant_of-self-in-Err g c =
    let set = c.take_in.new.self in (
      network_undone c.self.inside.arrivals c.insert.new.self c.remove.new.self (element_in c.args.element) c.in_ok-place.place set.alpha set.rules.items set.askers.items set.negated_askers.items
          c.in_ok-place.ensures.ok c.in_ok-place.ensures.place c.in_ok-place.ensures.tags c.remove.ensures.left c.in-Err.ensures.err,
      c.take_in.ensures.held c.self.invariant.1,
    )

pub returns-in-Err-clause-err : goal.returns-in-Err-clause-err
returns-in-Err-clause-err g c =
    places_undone c.self.inside.arrivals c.insert.new.self c.remove.new.self (element_in c.args.element) c.in_ok-place.ensures.below c.in_ok-place.ensures.ok c.in_ok-place.ensures.tags c.remove.ensures.left
    ∙ ap (λ (n : Network). n.arrivals.places) c.self.view_is

-- the work is told by the memory before
pub returns-in-Err-clause-steps : goal.returns-in-Err-clause-steps
returns-in-Err-clause-steps g c =
    let inside = c.self.inside in
    let most = network_work inside.arrivals c.insert.new.self (element_in c.args.element) c.in_ok-place.place inside.set.rules.items c.in_ok-place.ensures.below
    (ap (λ (a : Arrivals). a.came) c.in_ok-place.ensures.ok) (ap (λ (a : Arrivals). a.places) c.in_ok-place.ensures.ok) c.in_ok-place.ensures.place in
    subst (λ (n : Network). c.take_in.new.steps ≤ c.args.steps.now + join_work_of n.rules (n.arrivals.came ++ element_in c.args.element ∷ []) n.arrivals.places (length n.arrivals.came)) c.self.view_is
    (omega (arith, c.in-Err.ensures.steps, most))

pub returns-clause-steps : goal.returns-clause-steps
returns-clause-steps g c =
    let inside = c.self.inside in
    let most = network_work inside.arrivals c.insert.new.self (element_in c.args.element) c.in_ok-place.place inside.set.rules.items c.in_ok-place.ensures.below
    (ap (λ (a : Arrivals). a.came) c.in_ok-place.ensures.ok) (ap (λ (a : Arrivals). a.places) c.in_ok-place.ensures.ok) c.in_ok-place.ensures.place in
    subst (λ (n : Network). c.take_in.new.steps ≤ c.args.steps.now + join_work_of n.rules (n.arrivals.came ++ element_in c.args.element ∷ []) n.arrivals.places (length n.arrivals.came)) c.self.view_is
    (omega (arith, c.take_in.ensures.steps, most))

pub returns-in-Err-clause-grows : goal.returns-in-Err-clause-grows
returns-in-Err-clause-grows g c =
    let inside = c.self.inside in
    let after = c.take_in.new.self.rules.items in
    let left = c.remove.new.self in
    subst (λ (n : Network). AllGrow left.came (length n.arrivals.came) n.rules after) c.self.view_is
    (grow_undone c.insert.new.self left (element_in c.args.element).tag c.in_ok-place.place (length inside.arrivals.came) inside.set.rules.items after c.remove.ensures.left c.in_ok-place.ensures.place c.take_in.ensures.grows)

pub returns-clause-grows : goal.returns-clause-grows
returns-clause-grows g c =
    let inside = c.self.inside in
    let now = c.insert.new.self in
    let after = c.take_in.new.self.rules.items in
    subst (λ (n : Network). AllGrow now.came (length n.arrivals.came) n.rules after) c.self.view_is
    (subst (λ p. AllGrow now.came p inside.set.rules.items after) c.in_ok-place.ensures.place c.take_in.ensures.grows)
