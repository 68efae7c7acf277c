-- Each kind of test becomes a part that holds where it does.
use Rattle.std.proofs.Common.{subst, sym}
use Rattle.rule_base.specs.declared.condition.Test.TheVariants.{OneOf}
use Rattle.join_tests.specs.declared.joins.LoneTest.TheVariants as lone
use Rattle.join_tests.specs.declared.compile.Part.TheVariants.{Nothing, Lone}
use Rattle.join_tests.specs.Compiling.{IsPart}
use Rattle.join_tests.proofs.PartLemmas.{IsPart-Bind, IsPart-Cmp, IsPart-OneOf}
use Rattle.join_tests.proofs.compile.part_of.Goals as goal

pub returns-in-Bind-clause-part : goal.returns-in-Bind-clause-part
returns-in-Bind-clause-part c = subst (λ t. IsPart c.args.number c.args.sources.now t Nothing) (sym c.in-Bind.is) (IsPart-Bind c.args.number c.args.sources.now c.in-Bind.attr c.in-Bind.var)

pub returns-in-Cmp-clause-part : goal.returns-in-Cmp-clause-part
returns-in-Cmp-clause-part c =
    subst (λ t. IsPart c.args.number c.args.sources.now t c.part_of_comparison.result) (sym c.in-Cmp.is)
    (IsPart-Cmp c.args.number c.args.sources.now c.in-Cmp.attr c.in-Cmp.pred c.in-Cmp.arg c.part_of_comparison.result c.part_of_comparison.ensures.compares)

pub returns-in_ok-duplicate-in-OneOf-clause-part : goal.returns-in_ok-duplicate-in-OneOf-clause-part
returns-in_ok-duplicate-in-OneOf-clause-part c =
    let attr = c.in-OneOf.attr in
    subst (λ t. IsPart c.args.number c.args.sources.now t (Lone (lone.OneOf attr c.in_ok-duplicate-in-OneOf.field-0))) (sym c.in-OneOf.is)
    (subst (λ among. IsPart c.args.number c.args.sources.now (OneOf attr c.in-OneOf.among) (Lone (lone.OneOf attr among))) (sym c.in_ok-duplicate-in-OneOf.ensures)
    (IsPart-OneOf c.args.number c.args.sources.now attr c.in-OneOf.among))
