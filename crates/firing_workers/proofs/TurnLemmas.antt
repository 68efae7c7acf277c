-- What a part tells of the next turn.
use Rattle.std.proofs.Common.{◌≡◌, ◌⊎◌, ℕ, List, false, true, Option, None, Some, Result, Ok, Err, IfOk, IfSome, refl, subst, sym, ◌∙◌}
use Rattle.rule_base.specs.declared.base.Refraction.{Refraction}
use Rattle.rule_base.specs.declared.instantiation.Choice.{Choice}
use Rattle.rule_base.specs.declared.program.Program.{Program}
use Rattle.rule_base.specs.State.{State}
use Rattle.rule_base.specs.Step.{may_fire}
use Rattle.match_network.specs.Network.{Network}
use Rattle.conflict_parts.specs.declared.standing.RowId.{RowId}
use Rattle.conflict_parts.specs.declared.standing.Standing.TheVariants.{Marked}
use Rattle.conflict_parts.specs.Part.{IsCandidate, IsLivingRow, Part, is_free_row}
use Rattle.conflict_parts.specs.Standings.{is_marked, standing_at}
use Rattle.firing_core.specs.CoreState.{CoreState}
use Rattle.firing_core.specs.Firing.{IsLeft}
use Rattle.firing_workers.specs.Following.{Follows}
use Rattle.firing_workers.specs.Turn.{TellsNext}
use Rattle.firing_workers.proofs.LeftLemmas.{candidates_are_left, none_is_quiet}

-- a part of the same network with the same marks follows too
pub Follows-same : (program : Program) (s : State) (old new : Part) → new.network ≡ old.network → new.refraction ≡ old.refraction → ((rule number : ℕ) → is_marked new.standings rule number ≡ is_marked old.standings rule number) → Follows program s old → Follows program s new
Follows-same program s old new network refraction marks follows =
    let same : Follows program s (record old { standings = new.standings }) = record {
      of = follows.of;
      refraction = follows.refraction;
      memory = follows.memory;
      came = follows.came;
      fired = follows.fired;
      marks = λ rule number row lives. marks rule number ∙ follows.marks rule number row lives;
    } in
    subst (λ (r : Refraction). Follows program s (record { network = new.network; standings = new.standings; refraction = r })) (sym refraction)
    (subst (λ (n : Network). Follows program s (record { network = n; standings = new.standings; refraction = old.refraction })) (sym network) same)

-- the answer of a part that follows
pub told_next : {E : Type 0} (k : CoreState) (part : Part) (result : Result (Option RowId) E) → Follows k.program k.state part →
    IfOk result (λ found. IfSome found (IsCandidate part.network part.standings)) →
    (result ≡ Ok None → (rule number : ℕ) (row : List ℕ) → IsLivingRow part.network rule number row → (standing_at part.standings rule number ≡ Some Marked) ⊎ (is_free_row part.network rule row ≡ false)) →
    IfOk result (TellsNext k part)
told_next k part (Err e) follows some none = tt
told_next k part (Ok None) follows some none = none_is_quiet k.program k.state part follows (none refl)
told_next k part (Ok (Some id)) follows candidate none =
    let left = candidates_are_left k.program k.state part id follows candidate in
    (candidate, record { matching = left.matching; unfired = left.unfired; not_quiet = left.not_quiet })

-- a choice that is left may fire
pub may_fire-left : (k : CoreState) (c : Choice) → k.state.halted ≡ false → IsLeft k c → may_fire k.program k.state c ≡ true
may_fire-left k c going left = rw going (rw left.matching (rw left.unfired refl))
