-- The laws are lemmas about the definitions.
use Rattle.rule_base.proofs.RunLemmas.{told-run, refraction-run}
use Rattle.rule_base.proofs.laws.runs_are_told.Goals as goal

pub returns-clause-journal : goal.returns-clause-journal
returns-clause-journal c = told-run

pub returns-clause-refraction : goal.returns-clause-refraction
returns-clause-refraction c = refraction-run
