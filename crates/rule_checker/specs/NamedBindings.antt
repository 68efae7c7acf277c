-- Bindings by name: what the variables of a rule have, as a reader of its text says it, with no numbers for them.
use Rattle.std.specs.Prelude.{◌≡◌, ℕ, List, ◌∷◌, nat_eq, Option, None, Some, is_some}
use Rattle.std.specs.Map.{lookup}
use Rattle.rule_base.specs.declared.value.Value.{Value}
use Rattle.rule_base.specs.Bindings.{Bindings, binding_of}

-- names, each with a value; where one stands twice, the first counts
abbrev pub NamedValues : Type 0
NamedValues = List (ℕ × Value)

-- the value that goes with a name, if it has one
abbrev pub value_named : NamedValues → ℕ → Option Value
value_named values name = lookup (nat_eq name) values

-- the values once this name has this one
abbrev pub naming : NamedValues → ℕ → Value → NamedValues
naming values name value = (name, value) ∷ values

-- bindings by number and by name say the same, where names have these numbers
pub record SayTheSame (number : ℕ → Option ℕ) (bindings : Bindings) (named : NamedValues) : Type 0 where
  -- the names that have a value are those that have a number
  pub valued : (name : ℕ) → is_some (value_named named name) ≡ is_some (number name)
  -- and the value is that of the number
  pub same : (name var : ℕ) → number name ≡ Some var → binding_of bindings var ≡ value_named named name

-- both are none, or both are bindings that say the same
abbrev pub AgreeOn : (ℕ → Option ℕ) → Option Bindings → Option NamedValues → Type 0
AgreeOn number None None = Unit {0}
AgreeOn number None (Some named) = ⊥
AgreeOn number (Some bindings) None = ⊥
AgreeOn number (Some bindings) (Some named) = SayTheSame number bindings named
