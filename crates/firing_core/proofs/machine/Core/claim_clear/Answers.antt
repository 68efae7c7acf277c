-- No lock of a candidate that is clear is busy.
use Rattle.std.proofs.Common.{subst}
use Rattle.firing_core.specs.Lawful.{IsLawful}
use Rattle.firing_core.proofs.WhyLemmas.{clear_not_busy, memory_not_busy, told_memory}
use Rattle.firing_core.proofs.machine.Core.claim_clear.Goals as goal

pub returns-in_err-footprint-clause-refused : goal.returns-in_err-footprint-clause-refused
returns-in_err-footprint-clause-refused c = told_memory c.args.self.now c.args.candidate.now c.from_residual.result c.from_residual.ensures.1

pub returns-in_err-footprint-clause-not_busy : goal.returns-in_err-footprint-clause-not_busy
returns-in_err-footprint-clause-not_busy c = memory_not_busy c.from_residual.result c.from_residual.ensures.1

pub claim_asked-requires-clause-free : goal.claim_asked-requires-clause-free
claim_asked-requires-clause-free c =
    clear_not_busy c.args.self.now c.args.candidate.now (subst IsLawful c.self.view_is c.self.invariant.kept.lawful) c.requires.clear
