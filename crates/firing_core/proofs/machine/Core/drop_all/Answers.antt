-- No claims are left.
use Rattle.firing_core.proofs.KeptLemmas.{HoldsKept-none}
use Rattle.firing_core.proofs.machine.Core.drop_all.Goals as goal

pub invariant_of-self : goal.invariant_of-self
invariant_of-self c =
    HoldsKept-none c.self.inside c.clear.new.self c.self.invariant
    (record { claims = c.clear.ensures.claims; footprints = c.clear.ensures.footprints; given = c.clear.ensures.given })
