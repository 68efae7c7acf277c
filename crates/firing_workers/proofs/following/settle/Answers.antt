-- What has gone is gone, and then what came has come.
use Rattle.std.proofs.Common.{ℕ, List, subst}
use Rattle.std.proofs.lemmas.Result.{on_ok_weaker}
use Rattle.rule_base.specs.Effect.{removed_tags}
use Rattle.firing_workers.specs.Following.{Follows, with_removed}
use Rattle.firing_workers.proofs.following.settle.Goals as goal

pub returns : goal.returns
returns g c =
    let gone = removed_tags c.args.effect.now.changes in
    on_ok_weaker c.take_in_from.result
    (λ told program s more follows settled next is behind.
    told program (with_removed s gone) more
    (subst (λ (tags : List ℕ). Follows program (with_removed s tags) c.take_out_all.new.part) c.removed_tags.ensures (c.in_ok-take_out_all.ensures.follows program s follows settled).0)
    next is behind) c.take_in_from.ensures
