-- A firing of a choice: its rule, its effect, and the state that its commit makes.
use Rattle.std.proofs.Common.{◌≡◌, ℕ, length, true, false, Option, None, Some, Result, Ok, Err, IsSome, option_map, slice_get, get_or, is_ok, refl, sym, ◌∙◌, ap, subst, rules}
use Rattle.std.specs.Option.{option_map_or}
use Rattle.std.proofs.lemmas.Option.{slice_get_read, slice_get_within}
use Rattle.rule_base.specs.declared.instantiation.Choice.{Choice}
use Rattle.rule_base.specs.declared.program.Program.{Program}
use Rattle.rule_base.specs.declared.program.Rule.{Rule}
use Rattle.rule_base.specs.Memory.{Memory, elements_at}
use Rattle.rule_base.specs.Effect.{Effect, Failure, effect}
use Rattle.rule_base.specs.Bindings.{Bindings}
use Rattle.rule_base.specs.Match.{match_of}
use Rattle.rule_base.specs.ElementMatch.{bindings_with}
use Rattle.rule_base.specs.State.{State}
use Rattle.rule_base.specs.Step.{effect_of, matches}
use Rattle.rule_base.proofs.ElementMatchLemmas.{bindings_with-elements_at}
use Rattle.rhs_actions.specs.declared.refusal.EffectRefusal.{EffectRefusal}
use Rattle.rhs_actions.specs.Refusals.{TellsFailure}
use Rattle.firing_core.specs.Firing.{TellsFault}

-- a choice that matches names a rule of the program, whose positive condition elements accept its elements
pub record HasMatch (program : Program) (memory : Memory) (c : Choice) : Type 0 where
  pub rule : Rule
  pub at : slice_get program.rules c.rule ≡ Some rule
  pub accepted : IsSome (bindings_with rule (elements_at memory c.tags))

by_match : (program : Program) (memory : Memory) (c : Choice) (rule : Rule) (r : Result Bindings ℕ) → slice_get program.rules c.rule ≡ Some rule → match_of rule c.tags memory ≡ r → is_ok r ≡ true → HasMatch program memory c
by_match program memory c rule (Err n) at is ok = absurd (let wrong : ⊥ = cc in wrong)
by_match program memory c rule (Ok bindings) at is ok =
    record { rule = rule; at = at; accepted = some (bindings_with rule (elements_at memory c.tags)) bindings (bindings_with-elements_at rule c.tags memory bindings is) }
  where
    some : (o : Option Bindings) (b : Bindings) → o ≡ Some b → IsSome o
    some None b e = absurd (let wrong : ⊥ = cc in wrong)
    some (Some x) b e = search rules

by_rule : (program : Program) (memory : Memory) (c : Choice) (o : Option Rule) → slice_get program.rules c.rule ≡ o → option_map_or (λ (rule : Rule). is_ok (match_of rule c.tags memory)) o false ≡ true → HasMatch program memory c
by_rule program memory c None is ok = absurd (let wrong : ⊥ = cc in wrong)
by_rule program memory c (Some rule) is ok = by_match program memory c rule (match_of rule c.tags memory) is refl ok

pub HasMatch-matches : (program : Program) (memory : Memory) (c : Choice) → matches program memory c ≡ true → HasMatch program memory c
HasMatch-matches program memory c ok = by_rule program memory c (slice_get program.rules c.rule) refl ok

-- the rule that was read at its place is that rule
pub rule_read : (program : Program) (memory : Memory) (c : Choice) (rule : Rule) → (has : HasMatch program memory c) → rule ≡ get_or program.rules c.rule rule → slice_get program.rules c.rule ≡ Some rule
rule_read program memory c rule has at = slice_get_read program.rules (length program.rules) c.rule rule refl (slice_get_within program.rules c.rule has.rule has.at) at

-- the effect of the rule with the elements is that of the choice
pub effect_of-rule : (program : Program) (memory : Memory) (c : Choice) (rule : Rule) (r : Result Effect Failure) → slice_get program.rules c.rule ≡ Some rule → effect rule (elements_at memory c.tags) ≡ r → effect_of program memory c ≡ Some r
effect_of-rule program memory c rule r at is =
    let of_rule : Option Rule → Option (Result Effect Failure) = option_map (λ (x : Rule). effect x (elements_at memory c.tags)) in
    ap of_rule at ∙ ap (λ x. Some x) is

-- and so is its first failing action
pub TellsFault-rule : (program : Program) (memory : Memory) (c : Choice) (rule : Rule) (refusal : EffectRefusal) → slice_get program.rules c.rule ≡ Some rule → TellsFailure (effect rule (elements_at memory c.tags)) refusal → TellsFault (effect_of program memory c) refusal
TellsFault-rule program memory c rule refusal at tells = record {
  failed = λ action cause is. effect_of-rule program memory c rule (Err (record { action = action; cause = cause })) at (tells.failed action cause is);
}

-- its positive condition elements accept the elements
pub has_read : (program : Program) (memory : Memory) (c : Choice) (rule : Rule) → (has : HasMatch program memory c) → slice_get program.rules c.rule ≡ Some rule → IsSome (bindings_with rule (elements_at memory c.tags))
has_read program memory c rule has at =
    let same : has.rule ≡ rule = some_same (sym has.at ∙ at) in
    subst (λ (r : Rule). IsSome (bindings_with r (elements_at memory c.tags))) same has.accepted
  where
    some_same : {A : Type 0} {a b : A} → Some a ≡ Some b → a ≡ b
    some_same e = cc

-- two states with the same parts are the same
pub same_state : (s t : State) → s.memory ≡ t.memory → s.next ≡ t.next → s.fired ≡ t.fired → s.entries ≡ t.entries → s.halted ≡ t.halted → s.refraction ≡ t.refraction → s ≡ t
same_state s t memory next fired entries halted refraction =
    λ i. record { memory = memory i; next = next i; fired = fired i; entries = entries i; halted = halted i; refraction = refraction i }
