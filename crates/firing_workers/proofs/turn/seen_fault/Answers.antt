-- A fault that a lawful core has kept is an ending of its state.
use Rattle.std.proofs.Common.{◌≡◌, Option, Some, ap, rules, sym, subst, ◌∙◌}
use Rattle.rule_base.specs.declared.entry.Ending.TheVariants.{Fault}
use Rattle.rule_base.specs.declared.instantiation.Choice.{Choice}
use Rattle.rule_base.specs.Ending.{IsFault}
use Rattle.firing_core.specs.declared.claims.FaultSeen.{FaultSeen}
use Rattle.firing_core.specs.Lawful.{IsEndingFault}
use Rattle.firing_workers.proofs.turn.seen_fault.Goals as goal

pub returns-clause-ending : goal.returns-clause-ending
returns-clause-ending c =
    let k = c.args.core.now in
    let seen : FaultSeen = c.in-Some.seen.now in
    let kept : k.fault ≡ Some seen = search rules in
    let ends : IsFault k.program k.budget k.state seen.choice seen.action seen.cause = subst (IsEndingFault k) kept c.fault_seen.ensures.lawful.fault in
    record {
      few = c.fault_seen.ensures.lawful.within;
      ends = subst (λ (choice : Choice). IsFault k.program k.budget k.state choice seen.action seen.cause) (sym c.in_ok-copy-in-Some.ensures) ends;
    }

-- only one fault is kept
same_fault : (one other : FaultSeen) (o : Option FaultSeen) → o ≡ Some one → o ≡ Some other → one ≡ other
same_fault one other o is_one is_other =
    let both : Some one ≡ Some other = sym is_one ∙ is_other in
    let same : one ≡ other = cc in same

pub returns-clause-kept : goal.returns-clause-kept
returns-clause-kept c = λ seen ended_so is.
    let k = c.args.core.now in
    let here : FaultSeen = c.in-Some.seen.now in
    let kept : k.fault ≡ Some here = search rules in
    let same = same_fault here seen k.fault kept is in
    ap (λ (choice : Choice). Fault choice here.action here.cause) c.in_ok-copy-in-Some.ensures
    ∙ ap (λ (s : FaultSeen). Fault s.choice s.action s.cause) same
