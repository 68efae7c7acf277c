-- The row that was found is one of the rule's.
use Rattle.std.proofs.Common.{◌≡◌, ℕ, List, rules, subst, sym}
use Rattle.rule_base.proofs.EachLemmas.{Each-slice_get}
use Rattle.join_tests.specs.declared.joins.Negated.{Negated}
use Rattle.match_network.specs.Levels.{HaveCome}
use Rattle.match_network.specs.Negated.{AreNegatedStores, whole_rows}
use Rattle.match_network.proofs.rule_levels.RuleLevels.blocker.Goals as goal

pub find_blocker-requires-clause-served : goal.find_blocker-requires-clause-served
find_blocker-requires-clause-served g c =
    let a = c.args.arrivals.now in
    let here = c.args.self.now in
    let alpha = c.args.alpha.now in
    let negated_is : c.as_slice.result.now ≡ here.joins.negated = search rules in
    let stores_are : c.as_slice-2.result.now ≡ here.negated = search rules in
    subst (λ (ns : List Negated). AreNegatedStores ns a.came a.places c.as_slice-2.result.now alpha) (sym negated_is)
    (subst (λ (ks : List ℕ). AreNegatedStores here.joins.negated a.came a.places ks alpha) (sym stores_are) c.requires.served.each)

pub find_blocker-requires-clause-come : goal.find_blocker-requires-clause-come
find_blocker-requires-clause-come g c =
    Each-slice_get (HaveCome c.args.arrivals.now.came) (whole_rows c.args.self.now) c.args.number c.whole_row.result.now c.requires.come c.whole_row.ensures
