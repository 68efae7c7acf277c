-- What lives at the slots is the working memory.
use Rattle.std.proofs.Common.{subst, sym}
use Rattle.firing_core.specs.Matching.{MayFilter}
use Rattle.firing_core.proofs.negation.accepts_some_of.Goals as goal

pub accepts_some_at-requires : goal.accepts_some_at-requires
accepts_some_at-requires c = subst (λ memory. MayFilter c.args.cond.now memory c.args.binds.now) (sym c.slots.ensures) c.requires.may
