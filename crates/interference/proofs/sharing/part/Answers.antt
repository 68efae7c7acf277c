-- One rule more, which is in the part or isn't.
use Rattle.std.proofs.Common.{◌==◌, ◌%◌, ◌++◌, ◌∷◌, [], if◌then◌else◌, sym, ◌∙◌, ap}
use Rattle.interference.proofs.RuleLemmas.{filter-range_next}
use Rattle.interference.proofs.sharing.part.Goals as goal

pub loop-rule-preserved : goal.loop-rule-preserved
loop-rule-preserved c =
    let rule = c.loop-rule.rule in
    c.in_ok-push_if.ensures ∙ ap (λ rules. rules ++ (if rule % c.args.n == c.args.number then rule ∷ [] else [])) c.loop-rule.invariant ∙ sym (filter-range_next (λ k. k % c.args.n == c.args.number) rule)
