-- One more has arrived.
use Rattle.std.proofs.Common.{◌<◌, ◌+◌, [], ◌∷◌, ◌++◌, ◌∙◌, ap, arith, length, subst, sym}
use Rattle.std.specs.List.{AllByRecursion}
use Rattle.rule_base.specs.declared.element.Element.{Element}
use Rattle.rule_base.specs.Views.{element_in}
use Rattle.match_network.specs.Arrivals.{Arrivals}
use Rattle.match_network.proofs.TagLemmas.{one_more_arrived}
use Rattle.match_network.proofs.arrivals.Arrivals.insert.Goals as goal

pub invariant_of-self-2 : goal.invariant_of-self-2
invariant_of-self-2 c =
    let inside = c.self.inside in
    let kept = c.reserve.ensures in
    let above = subst (λ (a : Arrivals). AllByRecursion (λ (e : Element). e.tag < c.args.element.tag) a.came) (sym c.self.view_is) c.requires in
    one_more_arrived inside.elements c.push.new.self inside.memory.places c.put_in.new.memory.places inside.memory.came (element_in c.args.element) c.put_in.new.memory.came
    c.self.invariant (omega (arith, c.len-place.ensures, c.if-place.false)) above c.in_ok-push.ensures.ok
    (c.put_in.ensures.places ∙ ap (λ ps. ps ++ c.reserve.new.self.came ∷ []) kept.places ∙ ap (λ n. inside.memory.places ++ n ∷ []) kept.came)
    (c.put_in.ensures.came ∙ ap (λ n. n + 1) kept.came)

pub returns-clause-tags : goal.returns-clause-tags
returns-clause-tags c =
    let inside = c.self.inside in
    let kept = c.reserve.ensures in
    let above = subst (λ (a : Arrivals). AllByRecursion (λ (e : Element). e.tag < c.args.element.tag) a.came) (sym c.self.view_is) c.requires in
    (one_more_arrived inside.elements c.push.new.self inside.memory.places c.put_in.new.memory.places inside.memory.came (element_in c.args.element) c.put_in.new.memory.came
    c.self.invariant (omega (arith, c.len-place.ensures, c.if-place.false)) above c.in_ok-push.ensures.ok
    (c.put_in.ensures.places ∙ ap (λ ps. ps ++ c.reserve.new.self.came ∷ []) kept.places ∙ ap (λ n. inside.memory.places ++ n ∷ []) kept.came)
    (c.put_in.ensures.came ∙ ap (λ n. n + 1) kept.came)).tags

pub returns-clause-rising : goal.returns-clause-rising
returns-clause-rising c =
    let inside = c.self.inside in
    let kept = c.reserve.ensures in
    let above = subst (λ (a : Arrivals). AllByRecursion (λ (e : Element). e.tag < c.args.element.tag) a.came) (sym c.self.view_is) c.requires in
    let arrived = one_more_arrived inside.elements c.push.new.self inside.memory.places c.put_in.new.memory.places inside.memory.came (element_in c.args.element) c.put_in.new.memory.came
    c.self.invariant (omega (arith, c.len-place.ensures, c.if-place.false)) above c.in_ok-push.ensures.ok
    (c.put_in.ensures.places ∙ ap (λ ps. ps ++ c.reserve.new.self.came ∷ []) kept.places ∙ ap (λ n. inside.memory.places ++ n ∷ []) kept.came)
    (c.put_in.ensures.came ∙ ap (λ n. n + 1) kept.came) in
    (arrived.rising, arrived.below)

pub returns-clause-below : goal.returns-clause-below
returns-clause-below c = subst (λ (a : Arrivals). AllByRecursion (λ p. p < length a.came) a.places) c.self.view_is c.self.invariant.below
