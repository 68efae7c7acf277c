-- The laws are lemmas about the definitions.
use Rattle.firing_core.proofs.EventLemmas.{GoesOn-fold, IsLawful-fold}
use Rattle.firing_core.proofs.laws.events_keep_lawful.Goals as goal

pub returns-clause-lawful : goal.returns-clause-lawful
returns-clause-lawful c = IsLawful-fold

pub returns-clause-goes_on : goal.returns-clause-goes_on
returns-clause-goes_on c = GoesOn-fold
