-- Locks by number: 1,024 stripes of elements, and behind them 16 regions for each class.
use Rattle.std.specs.Prelude.{ℕ, ◌+◌, ◌*◌, ◌%◌, List, pos, unsigned_abs}
use Rattle.std.specs.List.{range_with_len}
use Rattle.std.specs.Int.{int_rem_euclid}
use Rattle.rule_base.specs.declared.value.Value.{Value}
use Rattle.rule_base.specs.declared.value.Value.TheVariants.{Int, Sym}

-- the stripe of the element with this tag
abbrev pub stripe : ℕ → ℕ
stripe tag = tag % 1024

-- the lock of a class's region
abbrev pub region : ℕ → ℕ → ℕ
region class number = 1024 + 16 * class + number

-- the bucket of a value: a remainder by 16 from 0 to 15, also of a negative number
abbrev pub bucket : Value → ℕ
bucket (Int z) = unsigned_abs (int_rem_euclid z (pos 16))
bucket (Sym n) = n % 16

-- the numbers of all regions of a class
abbrev pub every_region : List ℕ
every_region = range_with_len 0 16

-- how many locks there are: 5,120
abbrev pub lock_count : ℕ
lock_count = 1024 + 16 * 256
