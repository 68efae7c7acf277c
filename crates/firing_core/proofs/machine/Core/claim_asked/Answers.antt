-- Either nothing refuses the candidate, and the claim is made, or the first reason is told.
use Rattle.std.proofs.Common.{◌≡◌, None, Some, ap, sym, subst, ◌∙◌}
use Rattle.firing_core.specs.CoreState.{CoreState}
use Rattle.firing_core.specs.Events.{with_claim}
use Rattle.firing_core.specs.Refusals.{claim_refusal}
use Rattle.firing_core.proofs.MakeClaimLemmas.{claimed_event}
use Rattle.firing_core.proofs.WhyLemmas.{memory_not_busy, not_busy_told, told_memory}
use Rattle.firing_core.proofs.machine.Core.claim_asked.Goals as goal

pub returns-in_err-refusal-clause-refused : goal.returns-in_err-refusal-clause-refused
returns-in_err-refusal-clause-refused c = told_memory c.args.self.now c.args.candidate.now c.from_residual.result c.from_residual.ensures.1

pub returns-in_err-refusal-clause-not_busy : goal.returns-in_err-refusal-clause-not_busy
returns-in_err-refusal-clause-not_busy c = memory_not_busy c.from_residual.result c.from_residual.ensures.1

pub grant-requires-clause-free : goal.grant-requires-clause-free
grant-requires-clause-free c =
    let none : claim_refusal c.args.self.now c.args.candidate.now ≡ None = sym c.in_ok-refusal.ensures.refusal ∙ c.in-None.is in
    subst (λ (k : CoreState). claim_refusal k c.args.candidate.now ≡ None) (sym c.in_ok-refusal.ensures.same) none

pub returns-in_err-grant-in-None-clause-refused : goal.returns-in_err-grant-in-None-clause-refused
returns-in_err-grant-in-None-clause-refused c = told_memory c.args.self.now c.args.candidate.now c.from_residual-in_err-grant-in-None.result c.from_residual-in_err-grant-in-None.ensures.1

pub returns-in_err-grant-in-None-clause-not_busy : goal.returns-in_err-grant-in-None-clause-not_busy
returns-in_err-grant-in-None-clause-not_busy c = memory_not_busy c.from_residual-in_err-grant-in-None.result c.from_residual-in_err-grant-in-None.ensures.1

pub returns-in-Some-clause-not_busy : goal.returns-in-Some-clause-not_busy
returns-in-Some-clause-not_busy c =
    not_busy_told c.args.self.now c.args.candidate.now c.in-Some.refusal c.requires.free (sym c.in_ok-refusal.ensures.refusal ∙ c.in-Some.is)

pub returns-in_ok-grant-in-None-clause-claimed : goal.returns-in_ok-grant-in-None-clause-claimed
returns-in_ok-grant-in-None-clause-claimed c =
    let none : claim_refusal c.args.self.now c.args.candidate.now ≡ None = sym c.in_ok-refusal.ensures.refusal ∙ c.in-None.is in
    claimed_event c.args.self.now c.args.candidate.now c.requires.fits none
    ∙ ap (λ (k : CoreState). Some (with_claim k c.args.candidate.now)) (sym c.in_ok-refusal.ensures.same) ∙ ap (λ k. Some k) (sym c.in_ok-grant-in-None.ensures.claimed)
