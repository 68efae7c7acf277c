-- The rule is sound.
use Rattle.std.proofs.Common.{sym}
use Rattle.interference.proofs.DemandCodeLemmas.{HasFewClasses-sound}
use Rattle.interference.proofs.demands.footprint.Goals as goal

pub demand_all-requires : goal.demand_all-requires
demand_all-requires c = HasFewClasses-sound c.args.program.now c.args.candidate.now.choice.rule c.in-Some.rule.now c.requires.sound (sym c.in-Some.ensures.value)
