-- The rule that was asked is the one with this number, and cleaned stores serve as before.
use Rattle.std.proofs.Common.{◌≡◌, ℕ, ◌+◌, ◌<◌, ◌≤◌, List, IfSome, Some, length, slice_get, subst, sym, true}
use Rattle.std.specs.List.{list_all}
use Rattle.join_tests.specs.Meaning.{is_free}
use Rattle.match_network.specs.Negated.{IsWholeRow, blockers_tried, blocks}
use Rattle.match_network.specs.Network.{Network}
use Rattle.match_network.specs.Row.{elements_of}
use Rattle.match_network.specs.Rules.{RuleRows}
use Rattle.match_network.proofs.ComeLemmas.{slice_get-here}
use Rattle.match_network.proofs.HeldLemmas.{cleaned_held}
use Rattle.match_network.proofs.TellLemmas.{IsNetwork-cleaned, kept_blocks, kept_free, kept_steps}
use Rattle.match_network.proofs.network.Network.blocker.Goals as goal

pub invariant_of-self : goal.invariant_of-self
invariant_of-self g c =
    let inside = c.self.inside in (
      IsNetwork-cleaned inside.arrivals.came inside.arrivals.places inside.set.alpha c.blocker.new.alpha inside.set.rules.items inside.set.askers.items inside.set.negated_askers.items
          c.blocker.ensures.cleaned c.self.invariant.0,
      cleaned_held inside.set.held inside.arrivals.places inside.set.rules.items inside.set.alpha c.blocker.new.alpha c.blocker.ensures.cleaned c.self.invariant.1,
    )

pub returns-clause-blocks : goal.returns-clause-blocks
returns-clause-blocks g c =
    let inside = c.self.inside in
    let this = c.index-kept.result.now in
    let lt = subst (λ (n : Network). c.args.rule < length n.rules) (sym c.self.view_is) c.requires.rule in
    let there : slice_get inside.set.rules.items c.args.rule ≡ Some this = slice_get-here inside.set.rules.items c.args.rule this lt c.index-kept.ensures in
    subst (λ (n : Network). IfSome c.blocker.result (λ place. (kept : RuleRows) (those : List ℕ) → IsWholeRow n.rules c.args.rule c.args.row kept those → blocks kept.joins n.arrivals.came those place ≡ true)) c.self.view_is
    (kept_blocks inside.set.rules.items c.args.rule c.args.row this inside.arrivals.came c.blocker.result there c.blocker.ensures.blocks)

pub returns-clause-none : goal.returns-clause-none
returns-clause-none g c is =
    let inside = c.self.inside in
    let this = c.index-kept.result.now in
    let lt = subst (λ (n : Network). c.args.rule < length n.rules) (sym c.self.view_is) c.requires.rule in
    let there : slice_get inside.set.rules.items c.args.rule ≡ Some this = slice_get-here inside.set.rules.items c.args.rule this lt c.index-kept.ensures in
    subst (λ (n : Network). (kept : RuleRows) (those : List ℕ) → IsWholeRow n.rules c.args.rule c.args.row kept those → list_all (is_free (elements_of n.arrivals.came n.arrivals.places) (elements_of n.arrivals.came those)) kept.joins.negated ≡ true) c.self.view_is
    (kept_free inside.set.rules.items c.args.rule c.args.row this inside.arrivals.came inside.arrivals.places there (c.blocker.ensures.none is))

pub returns-clause-steps : goal.returns-clause-steps
returns-clause-steps g c =
    let inside = c.self.inside in
    let this = c.index-kept.result.now in
    let lt = subst (λ (n : Network). c.args.rule < length n.rules) (sym c.self.view_is) c.requires.rule in
    let there : slice_get inside.set.rules.items c.args.rule ≡ Some this = slice_get-here inside.set.rules.items c.args.rule this lt c.index-kept.ensures in
    subst (λ (n : Network). (kept : RuleRows) (those : List ℕ) → IsWholeRow n.rules c.args.rule c.args.row kept those → c.blocker.new.steps ≤ c.args.steps.now + blockers_tried kept.joins.negated n.arrivals.came n.arrivals.places those) c.self.view_is
    (kept_steps inside.set.rules.items c.args.rule c.args.row this inside.arrivals.came inside.arrivals.places c.args.steps.now c.blocker.new.steps there c.blocker.ensures.steps)
