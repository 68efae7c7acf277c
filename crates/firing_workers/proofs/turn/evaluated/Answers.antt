-- A choice that is left may fire, and one whose right-hand side fails is a fault.
use Rattle.std.proofs.Common.{◌≡◌, ℕ, Option, None, Some, ap, arith, is_none, rules, subst, sym}
use Rattle.rule_base.specs.declared.entry.FaultCause.{FaultCause}
use Rattle.rule_base.specs.declared.instantiation.Choice.{Choice}
use Rattle.rule_base.specs.Ending.{IsFault}
use Rattle.rule_base.proofs.ListedLemmas.{list_any-matches}
use Rattle.firing_core.specs.CoreState.{CoreState, ended}
use Rattle.firing_core.specs.declared.claims.How.{How}
use Rattle.firing_core.specs.declared.claims.How.TheVariants as how
use Rattle.firing_core.proofs.ClaimLemmas.{IsGoing-ended}
use Rattle.firing_workers.proofs.TurnLemmas.{may_fire-left}
use Rattle.firing_workers.proofs.turn.evaluated.Goals as goal

-- the fault that is told is the one that came up
same_fault : (k : CoreState) {c copy : Choice} {action number : ℕ} {cause other : FaultCause} → copy ≡ c → number ≡ action → other ≡ cause → IsFault k.program k.budget k.state c action cause → IsFault k.program k.budget k.state copy number other
same_fault k {c} {copy} {action} {number} {cause} {other} is_copy is_number is_other fault =
    subst (λ (f : FaultCause). IsFault k.program k.budget k.state copy number f) (sym is_other)
    (subst (λ (a : ℕ). IsFault k.program k.budget k.state copy a cause) (sym is_number)
    (subst (λ (d : Choice). IsFault k.program k.budget k.state d action cause) (sym is_copy) fault))

pub returns-in-Ok : goal.returns-in-Ok
returns-in-Ok c =
    let k = c.args.core.now in
    let on = IsGoing-ended k c.requires.lawful (ap is_none c.requires.going) in
    record {
      lawful = c.requires.lawful;
      going = c.requires.going;
      within = on.within;
      may = may_fire-left k c.args.prepared.now.choice on.going c.requires.left;
      effect = c.in-Ok.ensures.ok;
      of = c.requires.of;
    }

pub returns-in_ok-copy-in-Err-Failed : goal.returns-in_ok-copy-in-Err-Failed
returns-in_ok-copy-in-Err-Failed c =
    let k = c.args.core.now in
    let choice = c.args.prepared.now.choice in
    let action = c.in-Err-Failed.action in
    let cause = c.in-Err-Failed.cause in
    let on = IsGoing-ended k c.requires.lawful (ap is_none c.requires.going) in
    let ends : IsFault k.program k.budget k.state choice action cause = record {
      going = on.going;
      within = on.within;
      matching = list_any-matches k.program k.state.memory choice c.requires.left.matching;
      unfired = c.requires.left.unfired;
      fails = c.in-Err-Failed.ensures.failed.failed action cause (search rules);
    } in
    record {
      ending = record {
        few = omega (arith, on.within);
        ends = same_fault k c.in_ok-copy-in-Err-Failed.ensures c.in-Err-Failed.action-is c.in-Err-Failed.cause-is ends;
      };
      fault = λ seen ended_so kept. absurd (not_both (ended k) c.requires.going ended_so);
    }
  where
    not_both : (o : Option How) → o ≡ None → o ≡ Some how.Fault → ⊥
    not_both o none some = let wrong : ⊥ = cc in wrong
