-- The laws are lemmas about the definitions.
use Rattle.firing_workers.proofs.LeftLemmas.{candidates_are_left, matching_is_settled, none_is_quiet}
use Rattle.firing_workers.proofs.laws.candidates_are_what_is_left.Goals as goal

pub returns-clause-candidates : goal.returns-clause-candidates
returns-clause-candidates c = candidates_are_left

pub returns-clause-none : goal.returns-clause-none
returns-clause-none c = none_is_quiet

pub returns-clause-settled : goal.returns-clause-settled
returns-clause-settled c = matching_is_settled
