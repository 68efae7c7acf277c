-- A class stands where its name does.
use Rattle.std.proofs.Common.{nat_eq, sym, ap, ◌∙◌}
use Rattle.rule_base.specs.declared.program.Class.{Class}
use Rattle.rule_checker.specs.declared.refusal.CheckKind.TheVariants.{UnknownClass}
use Rattle.rule_checker.specs.Walk.{found_or}
use Rattle.rule_checker.proofs.NumberLemmas.{position-map}
use Rattle.rule_checker.proofs.classes.declared_class.Goals as goal

pub returns-in-Some : goal.returns-in-Some
returns-in-Some c = ap (λ o. found_or o UnknownClass) (sym c.in-Some.is ∙ c.class_place.ensures.place ∙ sym (position-map (nat_eq c.args.name) (λ (d : Class). d.name) c.args.classes.now))

pub returns-in-None : goal.returns-in-None
returns-in-None c = ap (λ o. found_or o UnknownClass) (sym c.in-None.is ∙ c.class_place.ensures.place ∙ sym (position-map (nat_eq c.args.name) (λ (d : Class). d.name) c.args.classes.now))
