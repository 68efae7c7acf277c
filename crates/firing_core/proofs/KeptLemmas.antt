-- What a core's fields keep, and what they hold, where a claim has come or gone.
use Rattle.std.proofs.Common.{◌≡◌, ℕ, ◌*◌, ◌≤◌, List, [], not, length, map, ◌==◌, sym, ◌∙◌, ap, subst, arith}
use Rattle.std.specs.List.{AllByRecursion}
use Rattle.std.proofs.Math.Nat.{mul-le-mul_right}
use Rattle.rule_base.proofs.EachLemmas.{Each-filter}
use Rattle.rule_base.specs.declared.lock.Mode.{Mode}
use Rattle.rule_base.specs.Fits.{Fits}
use Rattle.commit_journal.specs.declared.room.Room.{Room}
use Rattle.commit_journal.specs.Room.{FitsIn, room_times}
use Rattle.commit_journal.proofs.RoomLemmas.{FitsIn-room_times-less}
use Rattle.interference.specs.Footprint.{footprint}
use Rattle.standing_claims.specs.declared.claim.Claim.{Claim}
use Rattle.standing_claims.specs.Standing.{Standing, claims_without, footprints_without}
use Rattle.standing_claims.proofs.StandingLemmas.{footprints_without-by}
use Rattle.firing_core.specs.declared.machine.Core.TheInside.{Inside}
use Rattle.firing_core.specs.CoreFields.{HoldsKept, core_in}
use Rattle.firing_core.specs.Events.{without_claim, without_claims}
use Rattle.firing_core.specs.Kept.{IsKept}
use Rattle.firing_core.proofs.EventLemmas.{IsLawful-dropped, IsLawful-without_claims}
use Rattle.firing_core.proofs.PairLemmas.{length-filter}

-- fewer claims need no more room
pub fewer_fit : (n m : ℕ) (most room : Room) (spare : ℕ) → n ≤ m → FitsIn (room_times m most) room → m * most.elements ≤ spare → FitsIn (room_times n most) room × (n * most.elements ≤ spare)
fewer_fit n m most room spare few fits spares =
    (FitsIn-room_times-less n m most room few fits, omega (arith, mul-le-mul_right most.elements few, spares))

-- the claims after one has gone
pub record IsWithout (old new : Standing) (number : ℕ) : Type 0 where
  pub claims : new.claims ≡ claims_without old number
  pub footprints : new.footprints ≡ footprints_without old number
  pub given : new.given ≡ old.given

pub core_in-without : (before : Inside) (left : Standing) (number : ℕ) → IsWithout before.claims left number → core_in (record before { claims = left }) ≡ without_claim (core_in before) number
core_in-without before left number is = λ i. record (core_in before) { claims = is.claims i; given = is.given i }

-- the footprints of those that are left
pub footprints_left : (before : Inside) (left : Standing) (number : ℕ) → HoldsKept before → IsWithout before.claims left number → left.footprints ≡ map (λ (claim : Claim). footprint before.program.value claim.candidate) left.claims
footprints_left before left number holds is =
    let by : Claim → List (ℕ × Mode) = λ (claim : Claim). footprint before.program.value claim.candidate in
    is.footprints ∙ footprints_without-by before.claims number by holds.footprints ∙ ap (map by) (sym is.claims)

pub fitting_left : (before : Inside) (left : Standing) (number : ℕ) → HoldsKept before → IsWithout before.claims left number → AllByRecursion (λ (claim : Claim). Fits before.program.value claim.candidate) left.claims
fitting_left before left number holds is =
    let fits : Claim → Type 0 = λ (claim : Claim). Fits before.program.value claim.candidate in
    subst (AllByRecursion fits) (sym is.claims) (Each-filter fits (λ (claim : Claim). not (claim.number == number)) before.claims.claims holds.fitting)

pub fewer_left : (old new : Standing) (number : ℕ) → IsWithout old new number → length new.claims ≤ length old.claims
fewer_left old new number is = omega (arith, ap length is.claims, length-filter (λ (claim : Claim). not (claim.number == number)) old.claims)

pub HoldsKept-without : (before : Inside) (left : Standing) (number : ℕ) → HoldsKept before → IsWithout before.claims left number → HoldsKept (record before { claims = left })
HoldsKept-without before left number holds is =
    let fits = fewer_fit (length left.claims) (length before.claims.claims) before.most before.store.room before.store.spare (fewer_left before.claims left number is) holds.room holds.spare in
    record {
      kept = subst IsKept (sym (core_in-without before left number is)) (record {
        lawful = IsLawful-dropped (core_in before) number holds.kept.lawful;
        state = holds.kept.state;
        next_is_low = holds.kept.next_is_low;
        refraction = holds.kept.refraction;
      });
      index = holds.index;
      grouped = holds.grouped;
      splits = holds.splits;
      footprints = footprints_left before left number holds is;
      fitting = fitting_left before left number holds is;
      most = holds.most;
      room = fits.0;
      spare = fits.1;
      born = holds.born;
    }

-- and after all have gone
pub record AreGone (new : Standing) : Type 0 where
  pub claims : new.claims ≡ []
  pub footprints : new.footprints ≡ []
  pub given : new.given ≡ 0

pub core_in-none : (before : Inside) (left : Standing) → AreGone left → core_in (record before { claims = left }) ≡ without_claims (core_in before)
core_in-none before left is = λ i. record (core_in before) { claims = is.claims i; given = is.given i }

pub no_room : (claims : List Claim) (most room : Room) (spare : ℕ) → claims ≡ [] → FitsIn (room_times (length claims) most) room × (length claims * most.elements ≤ spare)
no_room claims most room spare none =
    subst (λ (cs : List Claim). FitsIn (room_times (length cs) most) room × (length cs * most.elements ≤ spare)) (sym none)
    (record { entries = omega arith; tags = omega arith; gone = omega arith; elements = omega arith; values = omega arith; pieces = omega arith }, omega arith)

pub HoldsKept-none : (before : Inside) (left : Standing) → HoldsKept before → AreGone left → HoldsKept (record before { claims = left })
HoldsKept-none before left holds is =
    let fits = no_room left.claims before.most before.store.room before.store.spare is.claims in
    record {
      kept = subst IsKept (sym (core_in-none before left is)) (record {
        lawful = IsLawful-without_claims (core_in before) holds.kept.lawful;
        state = holds.kept.state;
        next_is_low = holds.kept.next_is_low;
        refraction = holds.kept.refraction;
      });
      index = holds.index;
      grouped = holds.grouped;
      splits = holds.splits;
      footprints = is.footprints ∙ sym (ap (map (λ (claim : Claim). footprint before.program.value claim.candidate)) is.claims);
      fitting = subst (AllByRecursion (λ (claim : Claim). Fits before.program.value claim.candidate)) (sym is.claims) tt;
      most = holds.most;
      room = fits.0;
      spare = fits.1;
      born = holds.born;
    }
