-- The laws are lemmas about the definitions.
use Rattle.firing_core.proofs.EventLemmas.{IsLawful-fired, IsLawful-without_claims}
use Rattle.firing_core.proofs.laws.cores_stay_lawful.Goals as goal

pub returns-clause-firing : goal.returns-clause-firing
returns-clause-firing c = IsLawful-fired

pub returns-clause-dropping : goal.returns-clause-dropping
returns-clause-dropping c = IsLawful-without_claims
