-- The laws are lemmas about the definitions.
use Rattle.rule_base.proofs.MachineLemmas.{IsKeepingStep-sound, IsState-run}
use Rattle.rule_base.proofs.laws.steps_keep_states.Goals as goal

pub returns-clause-steps : goal.returns-clause-steps
returns-clause-steps c = λ program s choice after sound state fires. (IsKeepingStep-sound program s choice after sound state fires).state

pub returns-clause-runs : goal.returns-clause-runs
returns-clause-runs c = IsState-run

pub returns-clause-few_tags : goal.returns-clause-few_tags
returns-clause-few_tags c = λ program s choice after sound state fires. (IsKeepingStep-sound program s choice after sound state fires).near
