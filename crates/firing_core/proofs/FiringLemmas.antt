-- What a firing leaves of a core: it goes on, and its count rises by one.
use Rattle.std.proofs.Common.{◌≡◌, ◌+◌, [], ◌∷◌, ◌++◌, length, true, sym, ◌∙◌, ap, append_assoc, append-nil, length-append, refl}
use Rattle.std.proofs.lemmas.Bool.{false≢true}
use Rattle.rule_base.specs.declared.instantiation.Choice.{Choice}
use Rattle.rule_base.specs.declared.entry.Entry.{Entry}
use Rattle.rule_base.specs.declared.program.Program.{Program}
use Rattle.rule_base.specs.State.{State, count}
use Rattle.rule_base.specs.Step.{entry_of, may_fire}
use Rattle.rule_base.proofs.StepLemmas.{IsStep-from_step}
use Rattle.firing_core.specs.CoreState.{CoreState}
use Rattle.firing_core.specs.Firing.{Fires}
use Rattle.firing_core.specs.FinishedRun.{GoesOn}

pub GoesOn-itself : (k : CoreState) → GoesOn k k
GoesOn-itself k = record { same = record { of_program = refl; from_base = refl; with_budget = refl }; journal = ([], sym (append-nil k.state.entries)) }

-- the journal after a firing
journal_after : (old new : CoreState) (c : Choice) → Fires old new c → (entry : Entry) × (new.state.entries ≡ old.state.entries ++ entry ∷ [])
journal_after old new c fires =
    let made = IsStep-from_step old.program old.state c new.state fires.steps in
    (entry_of old.state.next c made.done, ap (λ (s : State). s.entries) made.commits)

pub GoesOn-fires : (first old new : CoreState) (c : Choice) → GoesOn first old → Fires old new c → GoesOn first new
GoesOn-fires first old new c goes fires =
    let last = journal_after old new c fires in
    record {
      same = record {
        of_program = fires.same.of_program ∙ goes.same.of_program;
        from_base = fires.same.from_base ∙ goes.same.from_base;
        with_budget = fires.same.with_budget ∙ goes.same.with_budget;
      };
      journal = (goes.journal.0 ++ last.0 ∷ [], last.1 ∙ ap (λ es. es ++ last.0 ∷ []) goes.journal.1 ∙ append_assoc first.state.entries goes.journal.0 (last.0 ∷ []));
    }

pub count-fires : (old new : CoreState) (c : Choice) → Fires old new c → count new.state ≡ count old.state + 1
count-fires old new c fires =
    let last = journal_after old new c fires in
    ap length last.1 ∙ length-append _ _

-- a halted machine fires nothing
pub halted_fires_nothing : (program : Program) (s : State) (c : Choice) → s.halted ≡ true → may_fire program s c ≡ true → ⊥
halted_fires_nothing program s c halted may = false≢true (rw halted at may)
