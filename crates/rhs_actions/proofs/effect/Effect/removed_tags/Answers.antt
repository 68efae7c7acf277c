-- The tags are those of the places, whatever values lie there.
use Rattle.std.proofs.Common.{ap, sym, ◌∙◌}
use Rattle.rule_base.specs.Effect.{Effect, removed_tags}
use Rattle.rhs_actions.proofs.EffectPlaceLemmas.{removed_tags-places}
use Rattle.rhs_actions.proofs.effect.Effect.removed_tags.Goals as goal

pub returns : goal.returns
returns c =
    let inside = c.self.inside in
    c.as_slice.ensures.value ∙ c.self.invariant.1 ∙ sym (removed_tags-places inside.values.items inside.changes.items) ∙ ap (λ (e : Effect). removed_tags e.changes) c.self.view_is
