-- What the count goes up by is what the rule got.
use Rattle.std.proofs.Common.{◌≡◌, ◌+◌, ◌-◌, ◌^◌, ap, arith, get_or, min, rules, sym, ◌∙◌}
use Rattle.match_network.specs.Held.{rows_filed}
use Rattle.match_network.specs.Rules.{RuleRows}
use Rattle.match_network.proofs.HeldLemmas.{woven_held}
use Rattle.match_network.proofs.due.weave_counted.Goals as goal

pub returns-clause-held : goal.returns-clause-held
returns-clause-held g c covers =
    let a = c.args.arrivals.now in
    let old = c.args.rules.now in
    let new = c.weave_at-woven.new.rules in
    let number = c.args.asker.rule in
    let first = c.index-rules-asker.result in
    let last = c.index-rules-asker-2.result in
    let first_is : first ≡ get_or old number first = search rules in
    let last_is : last ≡ get_or new number last = search rules in
    let now_is : c.saturating_add.result ≡ min (c.args.held.now + (c.count-after.result - c.count-before.result)) (2 ^ 64 - 1) = omega (arith, c.saturating_add.ensures, c.saturating_sub.ensures) in
    let before_is = c.count-before.ensures ∙ ap (λ (r : RuleRows). min (rows_filed r.levels) (2 ^ 64 - 1)) (sym first_is) in
    let after_is = c.count-after.ensures ∙ ap (λ (r : RuleRows). min (rows_filed r.levels) (2 ^ 64 - 1)) (sym last_is) in
    woven_held a.came a.places c.args.place number c.args.alpha.now c.weave_at-woven.new.alpha old new c.args.held.now c.saturating_add.result c.count-before.result c.count-after.result first last
    c.weave_at-woven.ensures.step first_is last_is before_is after_is now_is covers
