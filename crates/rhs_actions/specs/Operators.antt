-- What an operator gives of its two operands, and the columns of the operators' table.
use Rattle.std.specs.Prelude.{ℕ, ◌-◌, ◌^◌, ◌&&◌, ◌==◌, if◌then◌else◌, ℤ, pos, negsuc, Result, Ok, Err}
use Rattle.std.specs.Ordering.{int_eq}
use Rattle.rule_base.specs.declared.value.Value.{Value}
use Rattle.rule_base.specs.declared.value.Value.TheVariants.{Int, Sym}
use Rattle.rule_base.specs.declared.expression.Op.{Op}
use Rattle.rule_base.specs.declared.entry.FaultCause.{FaultCause}
use Rattle.rule_base.specs.declared.entry.FaultCause.TheVariants.{DivideByZero, Overflow, NotANumber}
use Rattle.rule_base.specs.Chains.{◌>>=◌}
use Rattle.rule_base.specs.Compute.{applied, number_of}

-- what the operator gives of its operands, of which the right one is a number already
abbrev pub operated : Op → Value → ℤ → Result ℤ FaultCause
operated op left right = number_of left >>= λ a. applied op a right

-- the column: a symbol; of two numbers a zero divisor, the least number before -1, or any others
abbrev pub column_of : Value → ℤ → ℕ
column_of (Sym s) right = 3
column_of (Int a) right = if int_eq right (pos 0) then 1 else if int_eq a (negsuc (2 ^ 63 - 1)) && int_eq right (negsuc 0) then 2 else 0

-- what a cell of the table says by itself
abbrev pub settled_by : ℕ → Result ℤ FaultCause
settled_by cell =
    if cell == 1 then Err DivideByZero
    else if cell == 2 then Err Overflow
    else if cell == 3 then Err NotANumber
    else Ok (pos 0)
