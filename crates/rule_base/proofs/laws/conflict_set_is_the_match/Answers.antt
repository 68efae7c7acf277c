-- Both directions are lemmas about the definitions.
use Rattle.rule_base.proofs.ConflictSetLemmas.{AllMatch-conflict_set}
use Rattle.rule_base.proofs.ListedLemmas.{list_any-matches}
use Rattle.rule_base.proofs.laws.conflict_set_is_the_match.Goals as goal

pub returns-clause-matches : goal.returns-clause-matches
returns-clause-matches c = AllMatch-conflict_set

pub returns-clause-listed : goal.returns-clause-listed
returns-clause-listed c = list_any-matches
