-- The elements that are made have the values that lie at their places.
use Rattle.std.proofs.Common.{ap, length, sym, ◌∙◌}
use Rattle.std.specs.List.{sum_by}
use Rattle.rule_base.specs.declared.element.Element.{Element}
use Rattle.rule_base.specs.Effect.{Effect}
use Rattle.rule_base.specs.Step.{born}
use Rattle.rhs_actions.specs.EffectPlaces.{sizes_of}
use Rattle.rhs_actions.proofs.EffectPlaceLemmas.{values-born}
use Rattle.rhs_actions.proofs.effect.Effect.made_values.Goals as goal

pub returns : goal.returns
returns c next =
    let inside = c.self.inside in
    ap (λ (e : Effect). sum_by (λ (e : Element). length e.values) (born next e.changes)) (sym c.self.view_is) ∙ values-born inside.values.items inside.changes.items next c.self.invariant.0.within
    ∙ ap sizes_of (sym c.as_slice.ensures.value) ∙ sym c.made_values.ensures
