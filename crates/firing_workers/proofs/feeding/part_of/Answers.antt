-- The part follows the core's memory, and then what is fired is marked.
use Rattle.std.proofs.Common.{ap, ◌∙◌}
use Rattle.std.specs.List.{list_any}
use Rattle.rule_base.specs.State.{same_choice}
use Rattle.conflict_parts.proofs.ChoiceLemmas.{living_rows_match}
use Rattle.firing_workers.proofs.FeedingLemmas.{follows_marked}
use Rattle.firing_workers.proofs.feeding.part_of.Goals as goal

pub returns-clause-follows : goal.returns-clause-follows
returns-clause-follows g c =
    follows_marked c.args.core.now c.in_ok-part.part c.mark_fired.new.part c.as_slice.result.now living_rows_match c.fired.ensures.lawful c.in_ok-part.ensures
    (λ d. ap (list_any (same_choice d)) c.as_slice.ensures ∙ c.in_ok-fired.ensures.fired d) c.in_ok-mark_fired.ensures
