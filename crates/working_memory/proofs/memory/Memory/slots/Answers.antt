-- A place is among those left exactly where its flag says so.
use Rattle.std.proofs.Common.{◌≡◌, ap, ◌∙◌, subst}
use Rattle.std.specs.List.{filter}
use Rattle.working_memory.specs.Memory.{Places}
use Rattle.working_memory.proofs.KeptLemmas.{kept_slots}
use Rattle.rule_base.specs.Numbers.{has_number}
use Rattle.working_memory.proofs.memory.Memory.slots.Goals as goal

pub returns-clause-held : goal.returns-clause-held
returns-clause-held c =
    let inside = c.self.inside in
    ap (filter (has_number c.args.self.now.places)) c.as_slice.ensures.value
    ∙ subst (λ (m : Places). filter (has_number m.places) inside.slots.items ≡ m.places) c.self.view_is
    (kept_slots inside.slots.items inside.here.items inside.living c.self.invariant.0)
