-- The laws are lemmas.
use Rattle.rule_checker.proofs.ViolationLemmas.{checked-exactly, checked-append}
use Rattle.rule_checker.proofs.laws.violations_are_first.Goals as goal

pub returns : goal.returns
returns c = record { first = checked-exactly; front = checked-append }
