-- By what its negated condition elements watch, and what its actions grow.
use Rattle.std.proofs.Common.{◌==◌, sym, ◌∙◌, ap}
use Rattle.std.specs.List.{list_any}
use Rattle.rule_base.specs.declared.lock.Mode.TheVariants.{Watch, Grow}
use Rattle.rule_base.specs.Chains.{only_if}
use Rattle.interference.specs.Modes.{joined}
use Rattle.interference.specs.Given.{negated}
use Rattle.interference.specs.MayInterfere.{classes_of}
use Rattle.interference.proofs.RuleLemmas.{asks-class_demands}
use Rattle.interference.proofs.rules.class_mode.Goals as goal

pub returns : goal.returns
returns c =
    let class = c.args.class in
    let conds = c.args.rule.now.conds in
    let watches = c.watches.ensures ∙ ap (λ cs. list_any (λ k. k == class) (classes_of (negated cs))) c.as_slice.ensures in
    c.mode_of.ensures
    ∙ ap (λ b. joined (only_if b Watch) (only_if c.grows.result Grow)) watches
    ∙ ap (λ b. joined (only_if (list_any (λ k. k == class) (classes_of (negated conds))) Watch) (only_if b Grow)) c.grows.ensures
    ∙ sym (asks-class_demands c.args.rule.now class)
