-- The law is a lemma about the definitions.
use Rattle.rule_base.proofs.ElementMatchLemmas.{bindings_with-elements_at}
use Rattle.rule_base.proofs.laws.bindings_are_the_match.Goals as goal

pub returns : goal.returns
returns c = bindings_with-elements_at
