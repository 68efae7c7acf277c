-- The laws are lemmas about the definitions.
use Rattle.firing_workers.proofs.ArrivalLemmas.{arrival_is_followed}
use Rattle.firing_workers.proofs.FollowingLemmas.{commit_is_followed, marking_is_followed, removal_is_followed}
use Rattle.firing_workers.proofs.laws.firings_are_followed.Goals as goal

pub returns-clause-marking : goal.returns-clause-marking
returns-clause-marking c = marking_is_followed

pub returns-clause-removal : goal.returns-clause-removal
returns-clause-removal c = removal_is_followed

pub returns-clause-arrival : goal.returns-clause-arrival
returns-clause-arrival c = arrival_is_followed

pub returns-clause-commit : goal.returns-clause-commit
returns-clause-commit c = commit_is_followed
