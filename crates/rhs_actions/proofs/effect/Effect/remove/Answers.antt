-- A removal has no values.
use Rattle.std.proofs.Common.{◌≡◌, ◌++◌, [], ◌∷◌, rules}
use Rattle.rhs_actions.specs.declared.effect.Placed.TheVariants.{Remove}
use Rattle.rhs_actions.proofs.EffectPlaceLemmas.{LieAmong-added, tags_at-added}
use Rattle.rhs_actions.proofs.effect.Effect.remove.Goals as goal

pub invariant_of-self-2 : goal.invariant_of-self-2
invariant_of-self-2 c =
    let inside = c.self.inside in
    let places = inside.changes.items in
    let placed = c.push_reserved.new.self.items in
    let added : placed ≡ places ++ Remove c.args.tag ∷ [] = search rules in
    let tags : c.push_reserved-2.new.self.items ≡ inside.gone.items ++ c.args.tag ∷ [] = search rules in (
      LieAmong-added inside.values.items inside.values.items places (Remove c.args.tag ∷ []) placed c.self.invariant.0 (search rules) (search rules) added,
      tags_at-added places (Remove c.args.tag ∷ []) placed inside.gone.items c.push_reserved-2.new.self.items c.self.invariant.1 added tags,
    )
