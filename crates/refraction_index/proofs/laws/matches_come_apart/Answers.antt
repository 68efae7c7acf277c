-- The laws are lemmas about the definitions.
use Rattle.refraction_index.proofs.BesideLemmas.{match_from-append, matches-append, matches-beside}
use Rattle.refraction_index.proofs.laws.matches_come_apart.Goals as goal

pub returns-clause-conditions : goal.returns-clause-conditions
returns-clause-conditions c = match_from-append

pub returns-clause-choices : goal.returns-clause-choices
returns-clause-choices c = matches-append

pub returns-clause-goes_on : goal.returns-clause-goes_on
returns-clause-goes_on c = matches-beside
