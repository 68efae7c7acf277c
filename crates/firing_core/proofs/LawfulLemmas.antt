-- Lawful cores: a core at its base is one and ready for a firing, and a firing keeps it so.
use Rattle.std.proofs.Common.{◌≡◌, ℕ, ◌+◌, ◌<◌, ◌≤◌, [], ◌∷◌, ◌++◌, length, None, Some, option_and_then, slice_get, refl, sym, ◌∙◌, ap, subst, arith}
use Rattle.std.proofs.lemmas.List.{length_push, map_push}
use Rattle.rule_base.specs.declared.entry.Entry.{Entry}
use Rattle.rule_base.specs.declared.instantiation.Choice.{Choice}
use Rattle.rule_base.specs.declared.program.Program.{Program}
use Rattle.rule_base.specs.declared.program.Rule.{Rule}
use Rattle.rule_base.specs.declared.base.Base.{Base}
use Rattle.rule_base.specs.Sound.{IsSound, IsSoundRule, sizes_of}
use Rattle.rule_base.specs.State.{State, choices_of, count, start}
use Rattle.rule_base.specs.Step.{entry_of, step}
use Rattle.rule_base.specs.Run.{run}
use Rattle.rule_base.proofs.EachLemmas.{Each-slice_get}
use Rattle.rule_base.specs.Base.{IsLawfulBase}
use Rattle.rule_base.specs.Ending.{IsBudget}
use Rattle.rule_base.proofs.BaseLemmas.{IsState-start}
use Rattle.rule_base.proofs.RunLemmas.{refraction-step}
use Rattle.rule_base.proofs.MachineLemmas.{IsKeepingStep-sound}
use Rattle.rule_base.proofs.StepLemmas.{IsStep-from_step, run-append}
use Rattle.firing_core.specs.CoreState.{CoreState}
use Rattle.firing_core.specs.Lawful.{IsEndingFault}
use Rattle.firing_core.proofs.PairLemmas.{AreLawful-none}
use Rattle.firing_core.specs.Kept.{IsKept}

-- a core without a fault
no_fault : (k : CoreState) → k.fault ≡ None → IsEndingFault k k.fault
no_fault k none = subst (IsEndingFault k) (sym none) tt

pub IsKept-start : (program : Program) (base : Base) (budget : ℕ) → IsSound program → IsLawfulBase program base → IsBudget budget → IsKept (record { program = program; base = base; budget = budget; state = start base; claims = []; given = 0; fault = None })
IsKept-start program base budget sound began few = record {
  lawful = record { sound = sound; began = began; ran = refl; within = omega arith; few = few; claims = record { held = tt; numbered = tt; together = tt; few_claims = omega arith; few_given = omega arith }; fault = tt };
  state = IsState-start program base began;
  next_is_low = omega (arith, began.few);
  refraction = refl;
}

-- a core without claims whose budget is not used up, and no firing of which has failed, is lawful and ready again after a step
pub IsKept-step : (k : CoreState) (c : Choice) (after : State) → IsKept k → k.claims ≡ [] → k.fault ≡ None → count k.state < k.budget → step k.program k.state c ≡ Some after → IsKept (record k { state = after })
IsKept-step k c after kept alone unfailed within steps =
    let lawful = kept.lawful in
    let made = IsStep-from_step k.program k.state c after steps in
    let keeps = IsKeepingStep-sound k.program k.state c after lawful.sound kept.state steps in
    let entry = entry_of k.state.next c made.done in
    let entries_are : after.entries ≡ k.state.entries ++ entry ∷ [] = ap (λ (s : State). s.entries) made.commits in
    let choices_are : choices_of after.entries ≡ choices_of k.state.entries ++ c ∷ [] = ap choices_of entries_are ∙ map_push (λ (e : Entry). e.choice) k.state.entries entry in
    let counted : count after ≡ count k.state + 1 = ap length entries_are ∙ length_push k.state.entries entry in
    let last : run k.program k.state (c ∷ []) ≡ Some after = ap (option_and_then (λ (s : State). Some s)) steps in
    record {
      lawful = record {
        sound = lawful.sound;
        began = lawful.began;
        ran = ap (run k.program (start k.base)) choices_are ∙ run-append k.program (start k.base) (choices_of k.state.entries) (c ∷ []) ∙ ap (option_and_then (λ (s : State). run k.program s (c ∷ []))) lawful.ran ∙ last;
        within = omega (arith, counted);
        few = lawful.few;
        claims = AreLawful-none (record k { state = after }) alone lawful.claims.few_given;
        fault = no_fault (record k { state = after }) unfailed;
      };
      state = keeps.state;
      next_is_low = omega (arith, counted, keeps.near, kept.next_is_low);
      refraction = refraction-step k.program k.state c after steps ∙ kept.refraction;
    }

-- a rule of the program has at most 64 actions
pub few_actions : (k : CoreState) (rule : Rule) (c : Choice) → IsKept k → slice_get k.program.rules c.rule ≡ Some rule → length rule.actions ≤ 64
few_actions k rule c kept at = (Each-slice_get (IsSoundRule (sizes_of k.program.classes)) k.program.rules c.rule rule kept.lawful.sound.sound_rules at).few_actions
