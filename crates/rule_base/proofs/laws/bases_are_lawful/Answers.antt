-- The laws are lemmas about the definitions.
use Rattle.rule_base.proofs.BaseLemmas.{IsLawfulBase-opening, IsLawfulBase-run, IsState-start}
use Rattle.rule_base.proofs.laws.bases_are_lawful.Goals as goal

pub returns-clause-openings : goal.returns-clause-openings
returns-clause-openings c = IsLawfulBase-opening

pub returns-clause-states : goal.returns-clause-states
returns-clause-states c = IsState-start

pub returns-clause-runs : goal.returns-clause-runs
returns-clause-runs c = IsLawfulBase-run
