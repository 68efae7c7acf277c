-- The group tells, also once it is cleaned.
use Rattle.std.proofs.Common.{◌≡◌, Some, ap, ◌∙◌, subst, sym}
use Rattle.rule_base.specs.Match.{accepts_some}
use Rattle.firing_core.specs.PinnedKeys.{pinned_key}
use Rattle.firing_core.specs.Store.{living_at}
use Rattle.firing_core.proofs.GroupedLemmas.{MayFilter-places, accepts_some-group}
use Rattle.firing_core.proofs.negation.accepts_some_with.Goals as goal

pub accepts_some_at-requires : goal.accepts_some_at-requires
accepts_some_at-requires c = MayFilter-places c.args.cond.now c.args.store.now c.args.binds.now c.group.result.now c.requires.may

pub returns-clause-found : goal.returns-clause-found
returns-clause-found c =
    let cond = c.args.cond.now in
    let s = c.args.store.now in
    let b = c.args.binds.now in
    let pinned = subst (λ attributes. pinned_key attributes b cond ≡ Some c.args.key) (sym c.clean.ensures.attributes) c.requires.pinned in
    c.accepts_some_at.ensures.found
    ∙ ap (λ places. accepts_some cond b (living_at s places)) c.group.ensures
    ∙ accepts_some-group cond s b c.clean.new.self c.args.key c.requires.may c.clean.ensures.grouping pinned
