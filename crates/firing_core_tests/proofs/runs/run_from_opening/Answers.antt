-- A run may begin from an opening.
use Rattle.rule_base.proofs.BaseLemmas.{IsLawfulBase-opening}
use Rattle.firing_core_tests.proofs.runs.run_from_opening.Goals as goal

pub run_alone-requires-clause-lawful : goal.run_alone-requires-clause-lawful
run_alone-requires-clause-lawful c =
    let opening = IsLawfulBase-opening c.args.program c.in_ok-opening.opening c.args.refraction c.in_ok-opening.ensures in
    rw (c.in_ok-new.ensures.ok, c.opening-base.ensures) opening
