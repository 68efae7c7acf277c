-- One half is left.
use Rattle.std.proofs.Common.{◌<◌, arith}
use Rattle.rule_base.specs.Views.{element_in}
use Rattle.match_network.proofs.TagLemmas.{left_ahead, left_behind}
use Rattle.match_network.proofs.arrivals.place_of.Goals as goal
use Rattle.match_network.proofs.arrivals.place_of.Goals.{then-found-tag-2, else-found-tag-2}

pub loop-low-preserved : goal.loop-low-preserved
loop-low-preserved c =
    let l = c.loop-low in
    let e = element_in c.at-found.result in
    elim c.if-found-tag-2.branch [
      | then-found-tag-2 w ↦ rw (w.low-is, w.high-is) (left_behind c.args.elements.now c.args.tag l.low l.high l.middle e c.requires c.loop-low-test.true c.at-found.ensures w.if-found-tag-2.true l.invariant)
      | else-found-tag-2 w ↦ rw (w.low-is, w.high-is)
          (left_ahead c.args.elements.now c.args.tag l.low l.high l.middle e c.requires c.loop-low-test.true c.at-found.ensures (let lt : c.args.tag < e.tag = omega (arith, w.if-found-tag-2.false, c.if-found-tag.false) in lt) l.invariant)
    ]
