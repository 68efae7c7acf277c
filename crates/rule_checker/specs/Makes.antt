-- The rules of a `make` at top level, in a program and in a memory file.
use Rattle.std.specs.Prelude.{ℕ, List, length, replicate, slice_set, Result, Ok}
use Rattle.rule_base.specs.declared.value.Value.{Value}
use Rattle.rule_base.specs.declared.program.Class.{Class}
use Rattle.rule_base.specs.Chains.{◌>>=◌}
use Rattle.rule_base.specs.Value.{nil}
use Rattle.rule_checker.specs.declared.refusal.CheckKind.{CheckKind}
use Rattle.rule_checker.specs.Classes.{declared_class, attributes_at, has_attribute}
use Rattle.rule_checker.specs.Walk.{after_each}

-- the values with one attribute set, which is the class's
abbrev pub with_value : List ℕ → List Value → ℕ × Value → Result (List Value) CheckKind
with_value attrs values set = has_attribute attrs set.0 >>= λ attr. Ok (slice_set values attr set.1)

-- the values that settings give, in order: an attribute that isn't set is nil, and the last setting of one stands
abbrev pub values_of : List ℕ → List (ℕ × Value) → Result (List Value) CheckKind
values_of attrs sets = after_each (with_value attrs) (replicate (length attrs) nil) sets

-- the number of the class, which is declared, with the values of its attributes
abbrev pub make_of : List Class → ℕ → List (ℕ × Value) → Result (ℕ × List Value) CheckKind
make_of classes name sets = declared_class classes name >>= λ class. values_of (attributes_at classes class) sets >>= λ values. Ok (class, values)
