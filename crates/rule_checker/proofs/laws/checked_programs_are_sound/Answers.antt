-- The law is a lemma.
use Rattle.rule_checker.proofs.CheckedLemmas.{checked-sound}
use Rattle.rule_checker.proofs.laws.checked_programs_are_sound.Goals as goal

pub returns : goal.returns
returns c forms program shape is = checked-sound forms program shape.shaped is
