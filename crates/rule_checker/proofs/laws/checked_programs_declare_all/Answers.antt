-- The law is a lemma.
use Rattle.rule_checker.proofs.DeclaredLemmas.{checked-declares}
use Rattle.rule_checker.proofs.laws.checked_programs_declare_all.Goals as goal

pub returns : goal.returns
returns c = checked-declares
