-- A run that goes on turn by turn, on a core without claims.
use Rattle.std.proofs.Common.{◌≡◌, ℕ, ◌-◌, ◌<◌, [], Option, None, Some, ap, arith, refl, subst, sym, ◌∙◌}
use Rattle.rule_base.specs.declared.entry.Ending.{Ending}
use Rattle.rule_base.specs.declared.program.Program.{Program}
use Rattle.rule_base.specs.Ending.{IsEnding}
use Rattle.rule_base.specs.State.{count}
use Rattle.firing_core.specs.CoreState.{CoreState, ended}
use Rattle.firing_core.specs.declared.claims.How.{How}
use Rattle.firing_core.specs.declared.claims.How.TheVariants as how
use Rattle.firing_core.specs.Events.{without_claims}
use Rattle.firing_core.specs.FinishedRun.{GoesOn, TellsKeptFault}
use Rattle.firing_core.proofs.FiringLemmas.{GoesOn-fires, GoesOn-itself, count-fires}
use Rattle.firing_workers.specs.Turn.{HasFinished, HasFired, HasGoneOn, IsOver}

pub gone_on-itself : (k : CoreState) → k.claims ≡ [] → k.given ≡ 0 → HasGoneOn k k
gone_on-itself k claims given = record { goes_on = GoesOn-itself k; alone = (claims, given); fault = refl; ended_before = λ how before. refl }

not_both : (o : Option How) (how : How) → o ≡ None → o ≡ Some how → ⊥
not_both o how none some = let wrong : ⊥ = cc in wrong

pub gone_on-fires : (first old new : CoreState) → HasGoneOn first old → HasFired old new → HasGoneOn first new
gone_on-fires first old new gone fired = record {
  goes_on = GoesOn-fires first old new fired.choice gone.goes_on fired.fires;
  alone = (fired.fires.claims.0 ∙ gone.alone.0, fired.fires.claims.1 ∙ gone.alone.1);
  fault = fired.fires.fault ∙ gone.fault;
  ended_before = λ how before. absurd (not_both (ended old) how fired.going (ap ended (gone.ended_before how before) ∙ before));
}

-- so many firings are left of a core's budget
abbrev pub left_of : CoreState → ℕ
left_of k = k.budget - count k.state

pub fewer_left : (old new : CoreState) → HasFired old new → left_of new < left_of old
fewer_left old new fired = omega (arith, fired.within, count-fires old new fired.choice fired.fires, fired.fires.same.with_budget)

pub gone_on-over : (first old new : CoreState) (end : Ending) → HasGoneOn first old → IsOver old new end → HasFinished first new end
gone_on-over first old new end gone over = record { gone_on = subst (HasGoneOn first) (sym over.same) gone; lawful = over.lawful; may = over.may }

pub finished_ends : (first k : CoreState) (end : Ending) → HasFinished first k end → IsEnding first.program first.budget k.state end
finished_ends first k end finished =
    let same = finished.gone_on.goes_on.same in
    subst (λ (p : Program). IsEnding p first.budget k.state end) same.of_program (subst (λ b. IsEnding k.program b k.state end) same.with_budget finished.may.ending)

pub finished_tells : (first k : CoreState) (end : Ending) → HasFinished first k end → TellsKeptFault first end
finished_tells first k end finished = λ seen before kept.
    let same = finished.gone_on.ended_before how.Fault before in
    finished.may.fault seen (ap ended same ∙ before) (ap (λ (c : CoreState). c.fault) same ∙ kept)

-- what has gone on from a core without its claims has gone on from it
pub finished-cleared : (old cleared k : CoreState) (end : Ending) → cleared ≡ without_claims old → HasFinished cleared k end → HasFinished (without_claims old) k end
finished-cleared old cleared k end clears finished = subst (λ (c : CoreState). HasFinished c k end) clears finished

pub finished_goes_on : (old k : CoreState) (end : Ending) → HasFinished (without_claims old) k end → GoesOn old k
finished_goes_on old k end finished =
    let goes_on = finished.gone_on.goes_on in
    record { same = record { of_program = goes_on.same.of_program; from_base = goes_on.same.from_base; with_budget = goes_on.same.with_budget }; journal = goes_on.journal }
