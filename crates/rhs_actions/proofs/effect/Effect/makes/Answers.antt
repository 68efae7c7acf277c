-- How many elements are made doesn't depend on the values.
use Rattle.std.proofs.Common.{[], ap, length, sym, ◌∙◌}
use Rattle.rule_base.specs.Effect.{Effect}
use Rattle.rule_base.specs.Step.{born}
use Rattle.rule_base.proofs.EffectLemmas.{length-born}
use Rattle.rhs_actions.specs.EffectPlaces.{changes_in}
use Rattle.rhs_actions.proofs.EffectPlaceLemmas.{makes-values}
use Rattle.rhs_actions.proofs.effect.Effect.makes.Goals as goal

pub returns : goal.returns
returns c next =
    let inside = c.self.inside in
    let places = inside.changes.items in
    ap (λ (e : Effect). length (born next e.changes)) (sym c.self.view_is) ∙ length-born next (changes_in inside.values.items places) ∙ makes-values inside.values.items [] places
    ∙ sym (length-born next (changes_in [] places)) ∙ ap (λ ps. length (born next (changes_in [] ps))) (sym c.as_slice.ensures.value) ∙ c.makes.ensures next
