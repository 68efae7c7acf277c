-- The claims are those that were left.
use Rattle.firing_core.proofs.KeptLemmas.{HoldsKept-without}
use Rattle.firing_core.proofs.machine.Core.take_away.Goals as goal

pub invariant_of-self : goal.invariant_of-self
invariant_of-self c =
    HoldsKept-without c.self.inside c.remove.new.self c.args.number c.self.invariant
    (record { claims = c.remove.ensures.claims; footprints = c.remove.ensures.footprints; given = c.remove.ensures.given })
