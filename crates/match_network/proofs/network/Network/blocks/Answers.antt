-- The rule that was asked is the one with this number.
use Rattle.std.proofs.Common.{◌≡◌, ℕ, ◌<◌, List, Some, length, slice_get, subst, sym}
use Rattle.match_network.specs.Negated.{IsWholeRow, blocks}
use Rattle.match_network.specs.Network.{Network}
use Rattle.match_network.specs.Rules.{RuleRows}
use Rattle.match_network.proofs.ComeLemmas.{slice_get-here}
use Rattle.match_network.proofs.TellLemmas.{kept_told}
use Rattle.match_network.proofs.network.Network.blocks.Goals as goal

pub returns : goal.returns
returns c =
    let inside = c.self.inside in
    let this = c.index.result.now in
    let lt = subst (λ (n : Network). c.args.rule < length n.rules) (sym c.self.view_is) c.requires.rule in
    let there : slice_get inside.set.rules.items c.args.rule ≡ Some this = slice_get-here inside.set.rules.items c.args.rule this lt c.index.ensures in
    subst (λ (n : Network). (kept : RuleRows) (those : List ℕ) → IsWholeRow n.rules c.args.rule c.args.row kept those → c.blocks-2.result ≡ blocks kept.joins n.arrivals.came those c.args.place) c.self.view_is
    (kept_told inside.set.rules.items c.args.rule c.args.row this inside.arrivals.came c.args.place c.blocks-2.result there c.blocks-2.ensures)
