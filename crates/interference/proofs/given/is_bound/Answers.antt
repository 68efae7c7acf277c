-- One condition element more, which binds the variable or doesn't.
use Rattle.std.proofs.Common.{◌+◌, drop, sym, ◌∙◌, ap}
use Rattle.interference.specs.Pins.{is_bound}
use Rattle.interference.proofs.FindingLemmas.{drop_item, is_bound-here, is_bound-later}
use Rattle.interference.proofs.given.is_bound.Goals as goal

pub returns-then-binds : goal.returns-then-binds
returns-then-binds c =
    let next = drop_item c.args.conds.now c.loop-cond.cond-index c.cond-item.result c.loop-cond-test.true c.cond-item.is in
    let rest = drop (c.loop-cond.cond-index + 1) c.args.conds.now in
    sym (c.loop-cond.invariant ∙ ap (λ conds. is_bound conds c.args.var) next ∙ is_bound-here c.cond-item.result rest c.args.var (sym c.if-binds.true ∙ c.binds.ensures))

pub loop-cond-preserved : goal.loop-cond-preserved
loop-cond-preserved c =
    let next = drop_item c.args.conds.now c.loop-cond.cond-index c.cond-item.result c.loop-cond-test.true c.cond-item.is in
    let rest = drop (c.loop-cond.cond-index + 1) c.args.conds.now in
    c.loop-cond.invariant ∙ ap (λ conds. is_bound conds c.args.var) next ∙ is_bound-later c.cond-item.result rest c.args.var (sym c.if-binds.false ∙ c.binds.ensures)
