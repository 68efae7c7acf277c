-- Each is right, since all are.
use Rattle.std.proofs.Common.{subst}
use Rattle.match_network.specs.Network.{AllHaveLevels, AreAllRight}
use Rattle.match_network.specs.Rules.{IsRight}
use Rattle.match_network.specs.Told.{AllAreTold}
use Rattle.rule_base.proofs.EachLemmas.{Each-slice_get}
use Rattle.match_network.proofs.FullLemmas.{rule_is_told}
use Rattle.match_network.proofs.TellLemmas.{each_has_levels, each_is_right}
use Rattle.match_network.proofs.network.Network.all_are_right.Goals as goal

pub returns-clause-right : goal.returns-clause-right
returns-clause-right c =
    let inside = c.self.inside in
    subst AreAllRight c.self.view_is (each_is_right inside.arrivals.came inside.arrivals.places inside.set.alpha inside.set.rules.items c.self.invariant.0.right)

pub returns-clause-levels : goal.returns-clause-levels
returns-clause-levels c =
    let inside = c.self.inside in
    subst AllHaveLevels c.self.view_is (each_has_levels inside.arrivals.came inside.arrivals.places inside.set.alpha inside.set.rules.items c.self.invariant.0.right)

pub returns-clause-told : goal.returns-clause-told
returns-clause-told c =
    let inside = c.self.inside in
    let came = inside.arrivals.came in
    let places = inside.arrivals.places in
    let rules = inside.set.rules.items in
    subst AllAreTold c.self.view_is
    (λ number rule kept there compiled. rule_is_told came places inside.set.alpha kept rule (Each-slice_get (IsRight came places inside.set.alpha) rules number kept c.self.invariant.0.right there)
    c.len-came.ensures.tags c.len-came.ensures.rising.1 compiled)
