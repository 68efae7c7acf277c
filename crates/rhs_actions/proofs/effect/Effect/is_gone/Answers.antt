-- It looks among the tags that are removed.
use Rattle.std.proofs.Common.{◌==◌, ap, ◌∙◌}
use Rattle.std.specs.List.{list_any}
use Rattle.rhs_actions.proofs.effect.Effect.is_gone.Goals as goal

pub returns : goal.returns
returns c = c.is_among.ensures ∙ ap (λ tags. list_any (λ gone. gone == c.args.tag) tags) c.removed_tags.ensures
