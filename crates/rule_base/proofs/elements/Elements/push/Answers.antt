-- The element lies behind the others, and its values behind theirs.
use Rattle.std.proofs.Common.{◌≡◌, [], ◌∷◌, ◌++◌, length, rules, subst}
use Rattle.rule_base.specs.declared.elements.Place.{Place}
use Rattle.rule_base.specs.Views.{element_in}
use Rattle.rule_base.specs.Places.{elements_in}
use Rattle.rule_base.proofs.PlaceLemmas.{elements_in-pushed}
use Rattle.rule_base.proofs.elements.Elements.push.Goals as goal

pub returns-clause-ok : goal.returns-clause-ok
returns-clause-ok c =
    let inside = c.self.inside in
    let more = c.args.element.values.now in
    let values = c.extend_from_slice.new.self.items in
    let places = c.push_reserved.new.self.items in
    let place : Place = record { tag = c.args.element.tag; start = c.len-start.result; size = length more; class = c.args.element.class } in
    subst (λ elements. elements_in values places ≡ elements ++ element_in c.args.element ∷ []) c.self.view_is
    (elements_in-pushed inside.values.items more values inside.places.items places place c.self.invariant (search rules) (search rules) (search rules) (search rules))
