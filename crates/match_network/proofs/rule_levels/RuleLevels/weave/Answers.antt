-- The levels were written in place.
use Rattle.std.proofs.Common.{◌≡◌, ◌+◌, ◌-◌, ◌++◌, List, ap, arith, drop, length, subst, sym, take, ◌∙◌}
use Rattle.join_tests.specs.declared.joins.Join.{Join}
use Rattle.match_network.specs.Conditions.{rows_of}
use Rattle.match_network.specs.Filed.{LevelRows}
use Rattle.match_network.specs.Levels.{OnlyAdds}
use Rattle.match_network.specs.Rules.{RuleRows}
use Rattle.match_network.specs.Tried.{rule_tried, woven_tried}
use Rattle.match_network.proofs.RuleLemmas.{front_again}
use Rattle.match_network.proofs.rule_levels.RuleLevels.weave.Goals as goal

pub returns-clause-adds : goal.returns-clause-adds
returns-clause-adds g c =
    let came = c.args.arrivals.now.came in
    let here = c.self.inside.levels in
    let new = c.weave.new.levels in
    let whole : take here.len (new ++ drop (length new) here.items) ≡ new =
    front_again new (drop (length new) here.items) here.len (omega (arith, here.ok.0, c.weave.auto.levels, ap length c.as_mut_slice.ensures.value)) in
    let old : c.as_mut_slice.result.now ≡ c.args.self.now.levels = c.as_mut_slice.ensures.value ∙ ap (λ (r : RuleRows). r.levels) c.self.view_is in
    subst (λ (ls : List LevelRows). OnlyAdds came c.args.place (rows_of ls) (rows_of (take here.len (new ++ drop (length new) here.items)))) old
    (subst (λ (ls : List LevelRows). OnlyAdds came c.args.place (rows_of c.as_mut_slice.result.now) (rows_of ls)) (sym whole) c.weave.ensures.adds)

pub returns-clause-steps : goal.returns-clause-steps
returns-clause-steps g c =
    let came = c.args.arrivals.now.came in
    let places = c.args.arrivals.now.places in
    let joins = c.as_slice.result.now in
    let levels = c.as_mut_slice.result.now in
    let at = c.args.at in
    let all : joins ≡ c.args.self.now.joins.positives = c.as_slice.ensures ∙ ap (λ (r : RuleRows). r.joins.positives) c.self.view_is in
    let old : levels ≡ c.args.self.now.levels = c.as_mut_slice.ensures.value ∙ ap (λ (r : RuleRows). r.levels) c.self.view_is in
    let same : woven_tried joins came places c.args.place at (rows_of levels at) (length joins - (at + 1)) ≡ rule_tried c.args.self.now came places c.args.place at =
    ap (λ (js : List Join). woven_tried js came places c.args.place at (rows_of levels at) (length js - (at + 1))) all
    ∙ ap (λ (ls : List LevelRows). woven_tried c.args.self.now.joins.positives came places c.args.place at (rows_of ls at) (length c.args.self.now.joins.positives - (at + 1))) old in
    omega (arith, c.weave.ensures.steps, same)
