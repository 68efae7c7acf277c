-- The places that are left, and then the others behind them.
use Rattle.std.proofs.Common.{◌≡◌, ◌++◌, rules, subst}
use Rattle.rule_base.specs.Places.{elements_in}
use Rattle.rule_base.specs.Step.{without}
use Rattle.rule_base.proofs.PlaceLemmas.{AreWithin-changed, elements_in-changed}
use Rattle.rule_base.proofs.elements.Elements.change.Goals as goal

pub invariant_of-self-2 : goal.invariant_of-self-2
invariant_of-self-2 c =
    let old = c.self.inside in
    let born = c.born.inside in
    AreWithin-changed old.values.items born.values.items c.extend_from_slice.new.self.items old.places.items born.places.items c.replace.new.places.items c.args.gone.now c.self.invariant c.born.invariant (search rules) (search rules)

pub returns-clause-ok : goal.returns-clause-ok
returns-clause-ok c =
    let old = c.self.inside in
    let born = c.born.inside in
    let values = c.extend_from_slice.new.self.items in
    let places = c.replace.new.places.items in
    let here : elements_in values places ≡ without (elements_in old.values.items old.places.items) c.args.gone.now ++ elements_in born.values.items born.places.items =
    elements_in-changed old.values.items born.values.items values old.places.items born.places.items places c.args.gone.now c.self.invariant (search rules) (search rules) in
    subst (λ elements. elements_in values places ≡ without elements c.args.gone.now ++ c.args.born.now) c.self.view_is
    (subst (λ more. elements_in values places ≡ without (elements_in old.values.items old.places.items) c.args.gone.now ++ more) c.born.view_is here)
