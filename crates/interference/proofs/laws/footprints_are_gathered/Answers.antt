-- The laws are lemmas about the definitions.
use Rattle.interference.proofs.DemandCodeLemmas.{Rises-gathered}
use Rattle.interference.proofs.ModeLemmas.{asks-gathered}
use Rattle.interference.proofs.laws.footprints_are_gathered.Goals as goal

pub returns-clause-asks : goal.returns-clause-asks
returns-clause-asks c = asks-gathered

pub returns-clause-rise : goal.returns-clause-rise
returns-clause-rise c = Rises-gathered
