-- What a filter leaves of rising slots rises.
use Rattle.std.proofs.Common.{◌<◌, subst}
use Rattle.std.specs.List.{AllByRecursion}
use Rattle.rule_base.specs.Memory.{Rises}
use Rattle.working_memory.specs.Memory.{Places}
use Rattle.working_memory.proofs.KeptLemmas.{kept_rises}
use Rattle.working_memory.proofs.memory.Memory.came.Goals as goal

pub returns-clause-rising : goal.returns-clause-rising
returns-clause-rising c =
    let inside = c.self.inside in
    subst (λ (m : Places). Rises m.places × AllByRecursion (λ p. p < m.came) m.places) c.self.view_is
    (kept_rises inside.slots.items inside.here.items inside.living c.self.invariant.0)
