-- The laws are lemmas about the definitions.
use Rattle.interference.proofs.LockLemmas.{footprint_in_range, footprint_not_empty}
use Rattle.interference.proofs.laws.footprints_are_of_locks.Goals as goal

pub returns-clause-in_range : goal.returns-clause-in_range
returns-clause-in_range c = footprint_in_range

pub returns-clause-not_empty : goal.returns-clause-not_empty
returns-clause-not_empty c = footprint_not_empty
