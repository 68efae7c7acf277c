-- The most pinned attribute of all is the split.
use Rattle.std.proofs.Common.{◌≡◌, arith, subst}
use Rattle.interference.specs.Counting.{IsMost}
use Rattle.interference.proofs.SplitLemmas.{split-most}
use Rattle.interference.proofs.splits.split.Goals as goal

pub returns : goal.returns
returns c =
    let all : c.loop-attr.attr ≡ c.args.size = omega (arith, c.loop-attr-test.false, c.loop-attr.auto.attr-end) in
    split-most c.args.rules.now c.args.class c.args.size c.loop-attr.most c.loop-attr.split (subst (λ n. IsMost c.args.rules.now c.args.class n c.loop-attr.most c.loop-attr.split) all c.loop-attr.invariant)
