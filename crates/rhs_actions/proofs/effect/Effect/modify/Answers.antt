-- The element lies behind the others, once the old one is removed.
use Rattle.std.proofs.Common.{◌≡◌, ◌++◌, Ok, [], ◌∷◌, ◌-◌, rules, subst, ap, append_assoc, ◌∙◌}
use Rattle.rule_base.specs.Views.{element_in}
use Rattle.rule_base.specs.Effect.{modified}
use Rattle.rhs_actions.specs.declared.effect.Placed.TheVariants.{Make, Remove}
use Rattle.rhs_actions.specs.EffectPlaces.{effect_in}
use Rattle.rhs_actions.specs.Acting.{reached}
use Rattle.rhs_actions.proofs.EffectPlaceLemmas.{LieAmong-added, modified-is, tags_at-added}
use Rattle.rhs_actions.proofs.effect.Effect.modify.Goals as goal

pub returns-clause-ok : goal.returns-clause-ok
returns-clause-ok c =
    let inside = c.self.inside in
    let now = c.extend_from_slice.new.self.items in
    let values = c.set_last.new.values.items in
    let removed = c.push_reserved.new.self.items in
    let changes = c.push_reserved-2.new.self.items in
    let b = c.args.binds.now in
    let e = element_in c.args.element in
    let new = effect_in values changes inside.pieces.items inside.halts in
    let set = c.in_ok-set_last.ensures in
    let copied : now ≡ inside.values.items ++ e.values = search rules in
    subst (λ done. modified e c.args.sets.now (reached b done) ≡ Ok (reached b new)) c.self.view_is
    (modified-is b c.args.sets.now e inside.values.items now values inside.changes.items removed changes inside.pieces.items inside.halts c.len-start.result (c.len.result - c.len-start.result)
    c.self.invariant.0.within copied (search rules) (search rules) set.ok set.before (search rules) (search rules) (search rules))

pub invariant_of-self-2 : goal.invariant_of-self-2
invariant_of-self-2 c =
    let inside = c.self.inside in
    let values = c.set_last.new.values.items in
    let size = c.len.result - c.len-start.result in
    let places = inside.changes.items in
    let gone = Remove c.args.element.tag in
    let come = Make c.len-start.result size c.args.element.class in
    let removed = c.push_reserved.new.self.items in
    let placed = c.push_reserved-2.new.self.items in
    let first : removed ≡ places ++ gone ∷ [] = search rules in
    let last : placed ≡ removed ++ come ∷ [] = search rules in
    let both = last ∙ ap (λ ps. ps ++ come ∷ []) first ∙ append_assoc places (gone ∷ []) (come ∷ []) in
    let tags : c.push_reserved-3.new.self.items ≡ inside.gone.items ++ c.args.element.tag ∷ [] = search rules in (
      LieAmong-added inside.values.items values places (gone ∷ come ∷ []) placed c.self.invariant.0 (search rules) (search rules) both,
      tags_at-added places (gone ∷ come ∷ []) placed inside.gone.items c.push_reserved-3.new.self.items c.self.invariant.1 both tags,
    )
