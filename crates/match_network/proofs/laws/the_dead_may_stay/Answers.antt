-- The laws are lemmas about the definitions.
use Rattle.match_network.proofs.LevelLemmas.{dead_may_go, places_may_go}
use Rattle.match_network.proofs.laws.the_dead_may_stay.Goals as goal

pub returns-clause-places : goal.returns-clause-places
returns-clause-places c = places_may_go

pub returns-clause-rows : goal.returns-clause-rows
returns-clause-rows c = dead_may_go
