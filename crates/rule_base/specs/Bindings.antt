-- Bindings: which variables of a rule have a value, by the variables' numbers.
use Rattle.std.specs.Prelude.{ℕ, List, Option, Some, None, replicate, slice_get, slice_set, unwrap_or}
use Rattle.std.specs.Option.{option_flatten}
use Rattle.rule_base.specs.declared.value.Value.{Value}
use Rattle.rule_base.specs.Value.{nil}

abbrev pub Bindings : Type 0
Bindings = List (Option Value)

-- none of so many variables has a value
abbrev pub no_bindings : ℕ → Bindings
no_bindings vars = replicate vars None

-- the variable's value, if it has one
abbrev pub binding_of : Bindings → ℕ → Option Value
binding_of bindings var = option_flatten (slice_get bindings var)

-- the variable's value on a right-hand side, and nil where it has none, which no sound rule meets
abbrev pub value_of : Bindings → ℕ → Value
value_of bindings var = unwrap_or (binding_of bindings var) nil

-- the bindings once the variable has this value
abbrev pub bound : Bindings → ℕ → Value → Bindings
bound bindings var value = slice_set bindings var (Some value)
