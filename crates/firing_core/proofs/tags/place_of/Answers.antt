-- The element in the middle leaves one half of the places.
use Rattle.std.proofs.Common.{◌≡◌, ◌<◌, None, subst, take, arith}
use Rattle.std.proofs.lemmas.Bool.Decides.{nat_tests}
use Rattle.rule_base.specs.Memory.{element_at}
use Rattle.rule_base.specs.Views.{element_in}
use Rattle.firing_core.proofs.TagLemmas.{absent-drop, absent-parts, absent-take}
use Rattle.firing_core.proofs.tags.place_of.Goals as goal

pub loop-low-preserved-then-found-tag-2 : goal.loop-low-preserved-then-found-tag-2
loop-low-preserved-then-found-tag-2 c =
    let below : c.at-found.result.tag < c.args.tag = grind (arith, nat_tests) in
    record {
      in_order = grind (arith, nat_tests);
      within = c.loop-low.invariant.within;
      before = absent-take c.args.tag _ c.args.elements.now (element_in c.at-found.result) c.requires c.at-found.ensures below;
      behind = c.loop-low.invariant.behind;
    }

pub loop-low-preserved : goal.loop-low-preserved
loop-low-preserved c =
    let above : c.args.tag < c.at-found.result.tag = grind (arith, nat_tests) in
    record {
      in_order = grind (arith, nat_tests);
      within = grind (arith, nat_tests, c.loop-low.invariant.within);
      before = c.loop-low.invariant.before;
      behind = absent-drop c.args.tag _ c.args.elements.now (element_in c.at-found.result) c.requires c.at-found.ensures above;
    }

pub returns : goal.returns
returns c =
    let met : c.loop-low.low ≡ c.loop-low.high = grind (arith, nat_tests, c.loop-low.invariant.in_order) in
    absent-parts c.args.tag c.loop-low.high c.args.elements.now
    (subst (λ n. element_at (take n c.args.elements.now) c.args.tag ≡ None) met c.loop-low.invariant.before) c.loop-low.invariant.behind
