-- The law is a lemma about the definitions.
use Rattle.rule_base.proofs.StepLemmas.{run-append}
use Rattle.rule_base.proofs.laws.runs_go_on.Goals as goal

pub returns : goal.returns
returns c = run-append
