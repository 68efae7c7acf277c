-- The laws are lemmas.
use Rattle.rule_checker.proofs.WrittenLemmas.{checked-means}
use Rattle.rule_checker.proofs.WrittenFiringLemmas.{checked-fires}
use Rattle.rule_checker.proofs.laws.rules_mean_what_is_written.Goals as goal

pub returns : goal.returns
returns c = record { rules = checked-means; choices = checked-fires }
