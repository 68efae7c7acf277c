-- One rule more is right.
use Rattle.std.proofs.Common.{◌++◌, [], ◌∷◌, List, ℕ, arith, subst, sym}
use Rattle.match_network.specs.Network.{IsNetwork}
use Rattle.match_network.specs.Rules.{AreAskers, RuleRows}
use Rattle.match_network.proofs.SetLemmas.{IsNetwork-push}
use Rattle.match_network.proofs.rule_set.RuleSet.push.Goals as goal

pub returns-clause-right : goal.returns-clause-right
returns-clause-right c =
    let set = c.args.self.now in
    let alpha = c.new.new.alpha in
    let rows = c.in_ok-levels.levels in
    let more = c.note_all.new.askers.items in
    let more_asks = c.note_all-2.new.askers.items in
    subst (λ (rules : List RuleRows). IsNetwork [] [] alpha rules more more_asks) (sym c.in_ok-push.ensures.items)
    (IsNetwork-push set.alpha alpha set.rules.items rows set.askers.items more set.negated_askers.items more_asks
    c.requires.right c.in_ok-levels.ensures.serve c.in_ok-levels.ensures.bare c.in_ok-levels.ensures.right c.in_ok-levels.ensures.negated_right
    (λ before long held. subst (λ (stores : List ℕ). AreAskers (before ++ stores ∷ []) more) c.stores.ensures (c.in_ok-note_all.ensures before (omega (arith, long, c.len-number.ensures, set.rules.ok.0)) held))
    (λ before long held. subst (λ (stores : List ℕ). AreAskers (before ++ stores ∷ []) more_asks) c.negated.ensures (c.in_ok-note_all-2.ensures before (omega (arith, long, c.len-number.ensures, set.rules.ok.0)) held)))
