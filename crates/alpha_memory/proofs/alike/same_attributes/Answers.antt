-- The keys differ at the place that was reached.
use Rattle.std.proofs.Common.{arith}
use Rattle.alpha_memory.proofs.ChangeLemmas.{attributes_at}
use Rattle.alpha_memory.proofs.alike.same_attributes.Goals as goal

pub returns-then-a-at : goal.returns-then-a-at
returns-then-a-at c = (λ wrong. cc, λ same. absurd (c.if-a-at.true (attributes_at c.args.a.now c.args.b.now c.loop-at.at _ same c.loop-at-test.true (omega arith))))
