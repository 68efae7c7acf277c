-- The laws are lemmas about the definitions.
use Rattle.match_network.proofs.LevelLemmas.{adding_goes_on, weaving_begins, weaving_ends, weaving_goes_on, weaving_may_stop}
use Rattle.match_network.proofs.laws.weaves_are_levels.Goals as goal

pub returns-clause-begins : goal.returns-clause-begins
returns-clause-begins c = weaving_begins

pub returns-clause-goes_on : goal.returns-clause-goes_on
returns-clause-goes_on c = weaving_goes_on

pub returns-clause-ends : goal.returns-clause-ends
returns-clause-ends c = weaving_ends

pub returns-clause-may_stop : goal.returns-clause-may_stop
returns-clause-may_stop c = weaving_may_stop

pub returns-clause-adding : goal.returns-clause-adding
returns-clause-adding c = adding_goes_on
