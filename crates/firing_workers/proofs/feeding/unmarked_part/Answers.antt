-- The part takes in the core's memory.
use Rattle.std.proofs.Common.{◌≡◌, List, ap, subst, ◌∙◌}
use Rattle.rule_base.specs.declared.program.Program.{Program}
use Rattle.rule_base.specs.declared.program.Rule.{Rule}
use Rattle.match_network.specs.Rules.{AreCompiled}
use Rattle.firing_workers.proofs.FeedingLemmas.{follows_unfired, rises_lawful}
use Rattle.firing_workers.proofs.feeding.unmarked_part.Goals as goal

pub take_in_all-requires-clause-rising : goal.take_in_all-requires-clause-rising
take_in_all-requires-clause-rising g c = rises_lawful c.args.core.now c.in_ok-copy_memory.field-0 c.count-count.ensures.lawful c.in_ok-copy_memory.ensures

pub returns : goal.returns
returns g c =
    let rules : c.as_slice-rules.result.now ≡ c.args.core.now.program.rules = c.as_slice-rules.ensures ∙ ap (λ (p : Program). p.rules) (c.deref.ensures ∙ c.program.ensures) in
    follows_unfired c.args.core.now c.in_ok-copy_memory.field-0 c.in_ok-part.part c.take_in_all-2.new.part c.count-count.ensures.lawful c.in_ok-copy_memory.ensures
    (subst (λ (rs : List Rule). AreCompiled rs c.in_ok-part.part.network.rules) rules c.in_ok-part.ensures.compiled) c.is_right.ensures.told
    (c.in_ok-part.ensures.refraction ∙ c.refraction.ensures) c.in_ok-part.ensures.came c.in_ok-part.ensures.places c.in_ok-part.ensures.marks c.in_ok-take_in_all.ensures
