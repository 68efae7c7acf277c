-- How one step of the machine, and a run of it, come apart.
use Rattle.std.proofs.Common.{◌≡◌, List, [], ◌∷◌, ◌++◌, Bool, true, false, Option, Some, None, Result, Ok, Err, option_and_then, refl, subst}
use Rattle.std.specs.Result.{result_ok}
use Rattle.rule_base.specs.declared.instantiation.Choice.{Choice}
use Rattle.rule_base.specs.declared.program.Program.{Program}
use Rattle.rule_base.specs.Chains.{only_if}
use Rattle.rule_base.specs.Effect.{Effect, Failure}
use Rattle.rule_base.specs.State.{State}
use Rattle.rule_base.specs.Step.{committed, effect_of, may_fire, step}
use Rattle.rule_base.specs.Run.{run}

-- a step that is made: the choice may be fired, its effect doesn't fail, and the state is what the commit makes
pub record IsStep (program : Program) (s : State) (c : Choice) (after : State) : Type 0 where
  pub done : Effect
  pub may : may_fire program s c ≡ true
  pub effect : effect_of program s.memory c ≡ Some (Ok done)
  pub commits : after ≡ committed program s c done

pub none_is_no_some : {A : Type 0} {a : A} → None ≡ Some a → ⊥
none_is_no_some e = cc

by_test : (program : Program) (s : State) (c : Choice) (after : State) (done : Effect) (b : Bool) → may_fire program s c ≡ b → effect_of program s.memory c ≡ Some (Ok done) → only_if b (committed program s c done) ≡ Some after → IsStep program s c after
by_test program s c after done true m e h = record { done = done; may = m; effect = e; commits = cc }
by_test program s c after done false m e h = absurd (none_is_no_some h)

by_effect : (program : Program) (s : State) (c : Choice) (after : State) (o : Option (Result Effect Failure)) → effect_of program s.memory c ≡ o → option_and_then (λ done. only_if (may_fire program s c) (committed program s c done)) (option_and_then result_ok o) ≡ Some after → IsStep program s c after
by_effect program s c after None e h = absurd (none_is_no_some h)
by_effect program s c after (Some (Err f)) e h = absurd (none_is_no_some h)
by_effect program s c after (Some (Ok done)) e h = by_test program s c after done (may_fire program s c) refl e h

pub IsStep-from_step : (program : Program) (s : State) (c : Choice) (after : State) → step program s c ≡ Some after → IsStep program s c after
IsStep-from_step program s c after h = by_effect program s c after (effect_of program s.memory c) refl h

-- and the other way round
pub step-from_parts : (program : Program) (s : State) (c : Choice) (done : Effect) → may_fire program s c ≡ true → effect_of program s.memory c ≡ Some (Ok done) → step program s c ≡ Some (committed program s c done)
step-from_parts program s c done m e = rw (e, m) refl

after_first : (program : Program) (xs ys : List Choice) (o : Option State) → ((after : State) → run program after (xs ++ ys) ≡ option_and_then (λ t. run program t ys) (run program after xs)) → option_and_then (λ t. run program t (xs ++ ys)) o ≡ option_and_then (λ t. run program t ys) (option_and_then (λ t. run program t xs) o)
after_first program xs ys None goes_on = refl
after_first program xs ys (Some after) goes_on = goes_on after

-- a run goes on: the choices after others fire where those have led
pub run-append : (program : Program) (s : State) (xs ys : List Choice) → run program s (xs ++ ys) ≡ option_and_then (λ after. run program after ys) (run program s xs)
run-append program s [] ys = refl
run-append program s (c ∷ xs) ys = after_first program xs ys (step program s c) (λ after. run-append program after xs ys)

-- what holds of no firing, and of one firing before others where it holds of those, holds of each run
by_first : (program : Program) (R : State → List Choice → State → Type 0) (s : State) (c : Choice) (choices : List Choice) (after : State) (o : Option State) → step program s c ≡ o → ((t : State) → step program s c ≡ Some t → R t choices after → R s (c ∷ choices) after) → ((t : State) → run program t choices ≡ Some after → R t choices after) → option_and_then (λ t. run program t choices) o ≡ Some after → R s (c ∷ choices) after
by_first program R s c choices after None is adds rest ran = absurd (none_is_no_some ran)
by_first program R s c choices after (Some t) is adds rest ran = adds t is (rest t ran)

pub run-by_steps : (program : Program) (R : State → List Choice → State → Type 0) → ((s : State) → R s [] s) → ((s t after : State) (c : Choice) (choices : List Choice) → step program s c ≡ Some t → R t choices after → R s (c ∷ choices) after)
    → (s : State) (choices : List Choice) (after : State) → run program s choices ≡ Some after → R s choices after
run-by_steps program R none adds s [] after ran = let same : s ≡ after = cc in subst (R s []) same (none s)
run-by_steps program R none adds s (c ∷ choices) after ran = by_first program R s c choices after (step program s c) refl (λ t. adds s t after c choices) (λ t goes. run-by_steps program R none adds t choices after goes) ran
