-- The laws are lemmas.
use Rattle.rule_checker.proofs.WrittenMakeLemmas.{checked-makes, opening-made}
use Rattle.rule_checker.proofs.laws.makes_mean_what_is_written.Goals as goal

pub returns : goal.returns
returns c = record { makes = checked-makes; opening = opening-made }
