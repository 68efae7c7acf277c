-- The failure of a claim's firing: the core is as its event says.
use Rattle.std.proofs.Common.{◌≡◌, None, Some, Err, length, sym, ◌∙◌, ap}
use Rattle.rule_base.specs.Effect.{Failure}
use Rattle.rule_base.specs.Step.{effect_of}
use Rattle.standing_claims.specs.Standing.{Standing}
use Rattle.firing_core.specs.declared.claims.Event.TheVariants as event
use Rattle.firing_core.specs.declared.claims.FaultSeen.{FaultSeen}
use Rattle.firing_core.specs.declared.machine.Core.TheInside.{Inside}
use Rattle.firing_core.specs.CoreFields.{HoldsKept, core_in}
use Rattle.firing_core.specs.CoreState.{ended}
use Rattle.firing_core.specs.Events.{apply}
use Rattle.firing_core.specs.Grants.{Granted}
use Rattle.firing_core.specs.Store.{memory_in}
use Rattle.firing_core.proofs.EventLemmas.{IsLawful-apply}
use Rattle.firing_core.proofs.GrantLemmas.{StandsFor, faulted, with_fault}
use Rattle.firing_core.proofs.KeptLemmas.{IsWithout, fewer_fit, fewer_left, fitting_left, footprints_left}

-- the fields before a claim's firing is kept as failed, its grant, and the failure
pub record MayFail (before : Inside) (grant : Granted) (failure : Failure) : Type 0 where
  pub holds : HoldsKept before
  pub going : ended (core_in before) ≡ None
  pub stands : StandsFor (core_in before) grant
  pub fails : effect_of before.program.value (memory_in before.store) grant.candidate.choice ≡ Some (Err failure)

-- what is kept of the failure
abbrev pub seen_of : Granted → Failure → FaultSeen
seen_of grant failure = record { choice = grant.candidate.choice; action = failure.action; cause = failure.cause }

core_after : (before : Inside) (left : Standing) (grant : Granted) (failure : Failure) → IsWithout before.claims left grant.number → core_in (record before { claims = left; fault = Some (seen_of grant failure) }) ≡ with_fault (core_in before) grant failure
core_after before left grant failure is = λ i. record (core_in (record before { claims = left; fault = Some (seen_of grant failure) })) { claims = is.claims i; given = is.given i }

-- the core has ended by its event
pub after_fault_is : (before : Inside) (left : Standing) (grant : Granted) (failure : Failure) → MayFail before grant failure → IsWithout before.claims left grant.number → apply (core_in before) (event.Faulted grant.number) ≡ Some (core_in (record before { claims = left; fault = Some (seen_of grant failure) }))
after_fault_is before left grant failure may is =
    faulted (core_in before) grant may.stands.claim failure may.stands.is may.going may.fails ∙ ap (λ k. Some k) (sym (core_after before left grant failure is))

-- and what the fields keep, they keep on
pub HoldsKept-faulted : (before : Inside) (left : Standing) (grant : Granted) (failure : Failure) → MayFail before grant failure → IsWithout before.claims left grant.number → HoldsKept (record before { claims = left; fault = Some (seen_of grant failure) })
HoldsKept-faulted before left grant failure may is =
    let holds = may.holds in
    let k = core_in before in
    let after = core_in (record before { claims = left; fault = Some (seen_of grant failure) }) in
    let fits = fewer_fit (length left.claims) (length before.claims.claims) before.most before.store.room before.store.spare (fewer_left before.claims left grant.number is) holds.room holds.spare in
    record {
      kept = record {
        lawful = IsLawful-apply k after (event.Faulted grant.number) holds.kept.lawful (after_fault_is before left grant failure may is);
        state = holds.kept.state;
        next_is_low = holds.kept.next_is_low;
        refraction = holds.kept.refraction;
      };
      index = holds.index;
      grouped = holds.grouped;
      splits = holds.splits;
      footprints = footprints_left before left grant.number holds is;
      fitting = fitting_left before left grant.number holds is;
      most = holds.most;
      room = fits.0;
      spare = fits.1;
      born = holds.born;
    }
