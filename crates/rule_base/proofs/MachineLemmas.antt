-- What one step of the machine keeps, and how far it brings the next tag.
use Rattle.std.proofs.Common.{◌≡◌, ℕ, ◌+◌, ◌≤◌, List, [], ◌∷◌, Option, Some, None, Result, Ok, option_and_then, option_map, slice_get, refl, sym, subst, arith}
use Rattle.std.specs.List.{AllByRecursion}
use Rattle.rule_base.specs.declared.element.Element.{Element}
use Rattle.rule_base.specs.declared.instantiation.Choice.{Choice}
use Rattle.rule_base.specs.declared.program.Rule.{Rule}
use Rattle.rule_base.specs.declared.program.Program.{Program}
use Rattle.rule_base.specs.Memory.{HasSize, Memory, element_at, elements_at}
use Rattle.rule_base.specs.Effect.{Effect, Failure, effect, removed_tags}
use Rattle.rule_base.specs.Sound.{IsSound, IsSoundRule, sizes_of}
use Rattle.rule_base.specs.State.{IsState, State}
use Rattle.rule_base.specs.Step.{committed, effect_of, step}
use Rattle.rule_base.specs.Run.{run}
use Rattle.rule_base.proofs.EachLemmas.{Each-filter_map, Each-find, Each-slice_get}
use Rattle.rule_base.proofs.StepLemmas.{IsStep-from_step}
use Rattle.rule_base.proofs.EffectLemmas.{IsSizedEffect-sound, length-born}
use Rattle.rule_base.proofs.MemoryLemmas.{IsMemoryBelow-commit}

-- the rule of a choice that has an effect
pub record HasRule (program : Program) (memory : Memory) (c : Choice) (r : Result Effect Failure) : Type 0 where
  pub rule : Rule
  pub is : slice_get program.rules c.rule ≡ Some rule
  pub effect_is : effect rule (elements_at memory c.tags) ≡ r

by_rule : (program : Program) (memory : Memory) (c : Choice) (r : Result Effect Failure) (o : Option Rule) → slice_get program.rules c.rule ≡ o → option_map (λ (rule : Rule). effect rule (elements_at memory c.tags)) o ≡ Some r → HasRule program memory c r
by_rule program memory c r None is e = absurd (let wrong : ⊥ = cc in wrong)
by_rule program memory c r (Some rule) is e = record { rule = rule; is = is; effect_is = cc }

pub HasRule-effect_of : (program : Program) (memory : Memory) (c : Choice) (r : Result Effect Failure) → effect_of program memory c ≡ Some r → HasRule program memory c r
HasRule-effect_of program memory c r e = by_rule program memory c r (slice_get program.rules c.rule) refl e

-- what holds of each element of a memory holds of those with some tags
pub Each-elements_at : (P : Element → Type 0) (memory : Memory) (tags : List ℕ) → AllByRecursion P memory → AllByRecursion P (elements_at memory tags)
Each-elements_at P memory tags of_memory = Each-filter_map P (element_at memory) tags (λ tag e at. Each-find P _ memory e of_memory at)

-- one step of a sound program
pub record IsKeepingStep (sizes : List ℕ) (s after : State) : Type 0 where
  pub state : IsState sizes after
  pub near : after.next ≤ s.next + 64

pub IsKeepingStep-sound : (program : Program) (s : State) (c : Choice) (after : State) → IsSound program → IsState (sizes_of program.classes) s → step program s c ≡ Some after → IsKeepingStep (sizes_of program.classes) s after
IsKeepingStep-sound program s c after sound state fires =
    let sizes = sizes_of program.classes in
    let made = IsStep-from_step program s c after fires in
    let has = HasRule-effect_of program s.memory c (Ok made.done) made.effect in
    let rule_sound : IsSoundRule sizes has.rule = Each-slice_get (IsSoundRule sizes) program.rules c.rule has.rule sound.sound_rules has.is in
    let sized_effect = IsSizedEffect-sound sizes has.rule (elements_at s.memory c.tags) made.done rule_sound (Each-elements_at (HasSize sizes) s.memory c.tags state.elements.sized) has.effect_is in
    let keeps = IsMemoryBelow-commit sizes s.next s.memory (removed_tags made.done.changes) made.done.changes state.elements state.below sized_effect.sized in
    let kept : IsKeepingStep sizes s (committed program s c made.done) = record {
      state = record { elements = keeps.memory'; below = keeps.below };
      near = omega (arith, length-born s.next made.done.changes, sized_effect.few, rule_sound.few_actions);
    } in
    subst (λ (t : State). IsKeepingStep sizes s t) (sym made.commits) kept

-- a run of a sound program leads from state to state
after_step : (program : Program) (choices : List Choice) (after : State) (o : Option State) → ((t : State) → o ≡ Some t → IsState (sizes_of program.classes) t) → ((t : State) → IsState (sizes_of program.classes) t → run program t choices ≡ Some after → IsState (sizes_of program.classes) after) → option_and_then (λ t. run program t choices) o ≡ Some after → IsState (sizes_of program.classes) after
after_step program choices after None keeps rest ran = absurd (let wrong : ⊥ = cc in wrong)
after_step program choices after (Some t) keeps rest ran = rest t (keeps t refl) ran

pub IsState-run : (program : Program) (s : State) (choices : List Choice) (after : State) → IsSound program → IsState (sizes_of program.classes) s → run program s choices ≡ Some after → IsState (sizes_of program.classes) after
IsState-run program s [] after sound state ran = let same : s ≡ after = cc in subst (IsState (sizes_of program.classes)) same state
IsState-run program s (c ∷ choices) after sound state ran = after_step program choices after (step program s c) (λ t fires. (IsKeepingStep-sound program s c t sound state fires).state) (λ t kept goes. IsState-run program t choices after sound kept goes) ran
