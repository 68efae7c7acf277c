-- The living rows of the rule's last level are its full matches.
use Rattle.std.proofs.Common.{◌≡◌, ◌<◌, Some, ap, filter, length, slice_get, subst, sym, ◌∙◌}
use Rattle.match_network.specs.Conditions.{rows_of}
use Rattle.match_network.specs.Network.{Network}
use Rattle.match_network.specs.Row.{is_living}
use Rattle.match_network.specs.Rules.{RuleRows}
use Rattle.match_network.proofs.ComeLemmas.{slice_get-here}
use Rattle.match_network.proofs.FullLemmas.{network_tells}
use Rattle.match_network.proofs.network.Network.full.Goals as goal

pub returns-clause-exact : goal.returns-clause-exact
returns-clause-exact c =
    let inside = c.self.inside in
    let rules = inside.set.rules.items in
    let lives = is_living inside.arrivals.places in
    let within = subst (λ (n : Network). c.args.number < length n.rules) (sym c.self.view_is) c.requires.number in
    let here : slice_get rules c.args.number ≡ Some c.index.result.now = slice_get-here rules c.args.number c.index.result.now within c.index.ensures in
    let told : (kept : RuleRows) → slice_get rules c.args.number ≡ Some kept → c.living.result ≡ filter lives (rows_of kept.levels (length kept.levels)) =
    λ kept there.
    let both : Some c.index.result.now ≡ Some kept = sym here ∙ there in
    let same : c.index.result.now ≡ kept = cc in
    c.living.ensures.rows ∙ ap (filter lives) c.in-Some.ensures.some ∙ ap (λ (k : RuleRows). filter lives (rows_of k.levels (length k.levels))) same in
    network_tells inside.arrivals inside.set.alpha rules inside.set.askers.items inside.set.negated_askers.items inside.set.due.items inside.set.negated_due.items inside.set.held inside.left c.args.self.now c.args.number c.living.result c.self.view_is c.self.invariant.0 c.living.ensures.tags c.living.ensures.below told
