-- One condition element further.
use Rattle.std.proofs.Common.{IsSome, drop, ◌∙◌, rules, subst}
use Rattle.rhs_actions.proofs.BindingLemmas.{matched_next}
use Rattle.rhs_actions.proofs.bindings.begin.Goals as goal

pub loop-cond-preserved : goal.loop-cond-preserved
loop-cond-preserved c =
    let next = matched_next c.args.rule.now.conds c.loop-cond.cond-index c.cond-item.result (drop c.loop-cond.next c.args.elements.now) (drop c.bind_next-next.result c.args.elements.now) c.loop-cond.binds c.bind_next-next.new.binds (search rules) (search rules) c.bind_next-next.ensures in
    record { same = c.loop-cond.invariant.same ∙ next; given = subst IsSome next c.loop-cond.invariant.given }
