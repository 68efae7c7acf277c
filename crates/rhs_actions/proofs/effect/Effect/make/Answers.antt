-- The element lies behind the others.
use Rattle.std.proofs.Common.{◌≡◌, Ok, [], ◌∷◌, ◌-◌, rules, subst, sym}
use Rattle.std.proofs.lemmas.List.{append-nil}
use Rattle.rhs_actions.specs.declared.effect.Placed.TheVariants.{Make}
use Rattle.rhs_actions.specs.EffectPlaces.{effect_in}
use Rattle.rhs_actions.specs.Acting.{made, reached}
use Rattle.rhs_actions.proofs.EffectPlaceLemmas.{LieAmong-added, made-is, tags_at-added}
use Rattle.rhs_actions.proofs.effect.Effect.make.Goals as goal

pub returns-clause-ok : goal.returns-clause-ok
returns-clause-ok c =
    let inside = c.self.inside in
    let values = c.set_last.new.values.items in
    let changes = c.push.new.self.items in
    let b = c.args.binds.now in
    let new = effect_in values changes inside.pieces.items inside.halts in
    let set = c.in_ok-set_last.ensures in
    subst (λ done. made c.args.class c.args.size c.args.sets.now (reached b done) ≡ Ok (reached b new)) c.self.view_is
    (made-is b c.args.sets.now inside.values.items c.add_nils.new.values.items values inside.changes.items changes inside.pieces.items inside.halts c.len-start.result _ c.args.class c.args.size
    c.self.invariant.0.within c.in_ok-add_nils.ensures.added (search rules) (search rules) set.ok set.before (search rules) c.in_ok-push.ensures.items)

pub invariant_of-self-2 : goal.invariant_of-self-2
invariant_of-self-2 c =
    let inside = c.self.inside in
    let values = c.set_last.new.values.items in
    let size = c.len.result - c.len-start.result in
    let come = Make c.len-start.result size c.args.class in (
      LieAmong-added inside.values.items values inside.changes.items (come ∷ []) c.push.new.self.items c.self.invariant.0 (search rules) (search rules) c.in_ok-push.ensures.items,
      tags_at-added inside.changes.items (come ∷ []) c.push.new.self.items inside.gone.items inside.gone.items c.self.invariant.1 c.in_ok-push.ensures.items (sym (append-nil inside.gone.items)),
    )
