-- The settings that are left come to the same.
use Rattle.std.proofs.Common.{◌≡◌, drop}
use Rattle.interference.specs.Regions.{known_after}
use Rattle.interference.proofs.regions.known_after.Given as goal

abbrev pub invariant-loop-set : goal.invariant-loop-set
invariant-loop-set l = known_after l.rule l.elements l.attr l.fn.known l.settings ≡ known_after l.rule l.elements l.attr l.known (drop l.set-index l.settings)
