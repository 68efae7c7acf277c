-- Lock words: what those who have taken a lock add up to, and which mode a word leaves room for.
use Rattle.std.specs.Prelude.{ℕ, ◌^◌, ◌%◌, List, Bool, ◌&&◌, not, Option, find, nat_lt, option_map, ◌==◌}
use Rattle.std.specs.List.{sum_by}
use Rattle.std.specs.Option.{option_map_or}
use Rattle.rule_base.specs.declared.lock.Mode.{Mode}
use Rattle.rule_base.specs.declared.lock.Mode.TheVariants.{Watch, Grow, Own}
use Rattle.rule_base.specs.declared.lock.Busy.{Busy}
use Rattle.interference.specs.Modes.{asks}

-- what one who takes a lock in this mode adds to its word, so that those who watch, who grow and who own are counted apart
abbrev pub amount : Mode → ℕ
amount Watch = 1
amount Grow = 2 ^ 20
amount Own = 2 ^ 40

-- whether a lock with this word may be taken in a mode: to watch nobody may grow or own it, to grow nobody watch or own it, and to own
-- it nobody may have it
abbrev pub admits : ℕ → Mode → Bool
admits word Watch = nat_lt word (2 ^ 20)
admits word Grow = nat_lt word (2 ^ 40) && (word % 2 ^ 20 == 0)
admits word Own = word == 0

-- the word of a lock that is taken as these footprints ask, each in one mode
abbrev pub word_of : List (List (ℕ × Mode)) → ℕ → ℕ
word_of footprints lock = sum_by (λ footprint. option_map_or amount (asks footprint lock) 0) footprints

-- the first demand of a footprint that the words leave no room for: its lock with its word
abbrev pub first_busy : (ℕ → ℕ) → List (ℕ × Mode) → Option Busy
first_busy words footprint =
    option_map (λ (d : ℕ × Mode). record { lock = d.0; word = words d.0 }) (find (λ (d : ℕ × Mode). not (admits (words d.0) d.1)) footprint)
