-- The locks of a footprint are ones that there are, and their words are those of the claims that stand.
use Rattle.std.proofs.Common.{◌∙◌, subst, sym, ap}
use Rattle.rule_base.specs.declared.program.Program.{Program}
use Rattle.interference.specs.Footprint.{footprint}
use Rattle.interference.specs.Words.{first_busy, word_of}
use Rattle.interference.proofs.LockLemmas.{footprint_in_range}
use Rattle.standing_claims.specs.Amounts.{AreOfLocks}
use Rattle.firing_core.specs.CoreState.{CoreState}
use Rattle.firing_core.specs.Refusals.{busy_lock}
use Rattle.firing_core.proofs.machine.Core.busy.Goals as goal

pub busy-requires : goal.busy-requires
busy-requires c =
    let program = c.self.inside.program.value in
    let asked = c.as_slice.ensures.value ∙ c.in_ok-footprint.ensures ∙ ap (λ (p : Program). footprint p c.args.candidate.now) c.deref.ensures in
    subst AreOfLocks (sym asked) (footprint_in_range program c.args.candidate.now c.self.invariant.kept.lawful.sound)

pub returns-clause-busy : goal.returns-clause-busy
returns-clause-busy c =
    let asked = c.as_slice.ensures.value ∙ c.in_ok-footprint.ensures ∙ ap (λ (p : Program). footprint p c.args.candidate.now) c.deref.ensures in
    c.busy.ensures ∙ (λ i. first_busy (word_of (c.self.invariant.footprints i)) (asked i)) ∙ ap (λ (k : CoreState). busy_lock k c.args.candidate.now) c.self.view_is
