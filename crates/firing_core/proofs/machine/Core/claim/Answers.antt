-- Want of memory, or the busy lock, is told.
use Rattle.firing_core.proofs.WhyLemmas.{told_memory}
use Rattle.firing_core.proofs.machine.Core.claim.Goals as goal

pub returns-in_err-busy-clause-refused : goal.returns-in_err-busy-clause-refused
returns-in_err-busy-clause-refused c = told_memory c.args.self.now c.args.candidate.now c.from_residual.result c.from_residual.ensures.1
