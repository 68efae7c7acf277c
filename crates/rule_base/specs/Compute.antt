-- What `compute` gives: an expression is evaluated from right to left, and no operator binds tighter than another.
use Rattle.std.specs.Prelude.{◌-◌, ◌^◌, ◌&&◌, if◌then◌else◌, ℤ, pos, negsuc, ◌+ℤ◌, ◌-ℤ◌, ◌*ℤ◌, int_le, int_div, int_rem, Result, Ok, Err}
use Rattle.std.specs.Ordering.{int_eq}
use Rattle.rule_base.specs.declared.value.Value.{Value}
use Rattle.rule_base.specs.declared.value.Value.TheVariants.{Int, Sym}
use Rattle.rule_base.specs.declared.expression.Op.{Op}
use Rattle.rule_base.specs.declared.expression.Op.TheVariants.{Add, Sub, Mul, Div, Rem}
use Rattle.rule_base.specs.declared.entry.FaultCause.{FaultCause}
use Rattle.rule_base.specs.declared.entry.FaultCause.TheVariants.{DivideByZero, Overflow, NotANumber}
use Rattle.rule_base.specs.Chains.{◌>>=◌}
use Rattle.rule_base.specs.Bindings.{Bindings, value_of}
use Rattle.rule_base.specs.Expression.{Tree, single, joined, Leaf, number, variable, parentheses}

-- the number, if it has 64 bits
abbrev pub in_64_bits : ℤ → Result ℤ FaultCause
in_64_bits z = if int_le (negsuc (2 ^ 63 - 1)) z && int_le z (pos (2 ^ 63 - 1)) then Ok z else Err Overflow

-- the value, unless the divisor is zero
abbrev pub divided : ℤ → Result ℤ FaultCause → Result ℤ FaultCause
divided divisor quotient = if int_eq divisor (pos 0) then Err DivideByZero else quotient

-- what an operator gives of two numbers: a quotient is truncated towards zero, and a remainder has the sign of
-- the dividend
abbrev pub applied : Op → ℤ → ℤ → Result ℤ FaultCause
applied Add a b = in_64_bits (a +ℤ b)
applied Sub a b = in_64_bits (a -ℤ b)
applied Mul a b = in_64_bits (a *ℤ b)
applied Div a b = divided b (in_64_bits (int_div a b))
applied Rem a b = divided b (in_64_bits (int_rem a b))

-- the number that a value is
abbrev pub number_of : Value → Result ℤ FaultCause
number_of (Int z) = Ok z
number_of (Sym s) = Err NotANumber

-- what an expression gives: first the rest, then the operand before it, then the operator
abbrev mutual
  pub computed : Tree → Bindings → Result ℤ FaultCause
  computed (single operand) bindings = operand_value operand bindings
  computed (joined operand op rest) bindings = computed rest bindings >>= λ right. operand_value operand bindings >>= λ left. applied op left right

  pub operand_value : Leaf → Bindings → Result ℤ FaultCause
  operand_value (number z) bindings = Ok z
  operand_value (variable var) bindings = number_of (value_of bindings var)
  operand_value (parentheses inner) bindings = computed inner bindings
