-- A run may begin from an opening.
use Rattle.std.proofs.Common.{sym, subst}
use Rattle.rule_base.specs.declared.program.Program.{Program}
use Rattle.rule_base.specs.declared.base.Base.{Base}
use Rattle.rule_base.specs.declared.base.Refraction.TheVariants.{Once}
use Rattle.rule_base.specs.Base.{IsLawfulBase}
use Rattle.rule_base.proofs.BaseLemmas.{IsLawfulBase-opening}
use Rattle.ops_command.proofs.run.plan_run.Goals as goal

pub run_alone-requires-clause-lawful : goal.run_alone-requires-clause-lawful
run_alone-requires-clause-lawful c =
    let opening = IsLawfulBase-opening c.args.program c.args.opening Once c.requires.opening in
    subst (λ (p : Program). IsLawfulBase p c.opening-base.result) (sym c.in_ok-program.ensures.ok)
    (subst (λ (base : Base). IsLawfulBase c.args.program base) (sym c.opening-base.ensures) opening)
