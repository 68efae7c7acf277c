-- Pins: the value that an attribute must have if a negated condition element is to accept an element.
use Rattle.std.specs.Prelude.{ℕ, List, Bool, true, ◌&&◌, Option, None, is_some, ◌==◌}
use Rattle.std.specs.List.{list_any}
use Rattle.rule_base.specs.declared.condition.Arg.{Arg}
use Rattle.rule_base.specs.declared.condition.Arg.TheVariants.{Con, Var}
use Rattle.rule_base.specs.declared.condition.Test.{Test}
use Rattle.rule_base.specs.declared.condition.Test.TheVariants.{Bind, Cmp, OneOf}
use Rattle.rule_base.specs.declared.condition.Cond.{Cond}
use Rattle.rule_base.specs.Chains.{first_answer, only_if}
use Rattle.rule_base.specs.Sound.{bound_variables}
use Rattle.interference.specs.Given.{positive}
use Rattle.rule_base.specs.Predicate.{is_equality}

-- whether a positive condition element binds the variable
abbrev pub is_bound : List Cond → ℕ → Bool
is_bound conds var = list_any (λ n. n == var) (bound_variables (positive conds))

-- whether elements for the positive condition elements tell what a test compares with: a constant, or a variable
-- that one of them binds
abbrev pub is_told : List Cond → Arg → Bool
is_told conds (Con value) = true
is_told conds (Var var) = is_bound conds var

-- what a test pins the attribute to, if it does
abbrev pub pin : List Cond → ℕ → Test → Option Arg
pin conds attr (Bind at var) = None
pin conds attr (Cmp at pred arg) = only_if (is_equality pred && (at == attr) && is_told conds arg) arg
pin conds attr (OneOf at among) = None

-- what the first test of a condition element to pin the attribute pins it to
abbrev pub first_pin : List Cond → ℕ → Cond → Option Arg
first_pin conds attr cond = first_answer (pin conds attr) cond.tests

-- whether a condition element pins the attribute
abbrev pub pins : List Cond → ℕ → Cond → Bool
pins conds attr cond = is_some (first_pin conds attr cond)
