-- The laws are lemmas.
use Rattle.rule_checker.proofs.KindLemmas.{checked-kinds, opening-kinds}
use Rattle.rule_checker.proofs.laws.violations_are_of_these_kinds.Goals as goal

pub returns : goal.returns
returns c = record { program = checked-kinds; memory_file = opening-kinds }
