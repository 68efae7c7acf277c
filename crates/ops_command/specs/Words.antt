-- The words after the program's name, and what they ask for: `run PROGRAM`, then MEMORY, then `--firings N`, where the
-- last two may be left out.
use Rattle.std.specs.Prelude.{◌≡◌, ℕ, List, [], ◌∷◌, Bool, ◌&&◌, not, nat_eq, nat_le, codes, length, Option, option_and_then, None, Some, Result, Ok, Err, if◌then◌else◌}
use Rattle.std.specs.List.{starts_with}
use Rattle.std.specs.Str.{all_ascii_digits, bytes_eq}
use Rattle.std.specs.Str.Parse.{digits_value}
use Rattle.rule_base.specs.Chains.{only_if, ◌>>=◌}
use Rattle.ops_command.specs.declared.status.UsageKind.{UsageKind}
use Rattle.ops_command.specs.declared.status.UsageKind.TheVariants as usage

-- what words ask for: the name of a program file, that of a memory file where there is one, and a budget of firings
pub record Asked : Type 0 where
  pub program : List ℕ
  pub memory : Option (List ℕ)
  pub budget : ℕ

-- whether a word may name a file: it doesn't begin with `-`
abbrev pub names_file : List ℕ → Bool
names_file word = not (starts_with nat_eq word (codes "-"))

-- whether a word is one to seven ASCII digits
abbrev pub is_short_numeral : List ℕ → Bool
is_short_numeral word = nat_le 1 (length word) && nat_le (length word) 7 && all_ascii_digits word

-- the number that such a word writes
abbrev pub short_number : List ℕ → Option ℕ
short_number word = only_if (is_short_numeral word) (digits_value 10 word)

-- whether so many firings may be asked for
abbrev pub is_budget : ℕ → Bool
is_budget firings = nat_le 1 firings && nat_le firings 4000000

-- the budget that a word stands for
abbrev pub budget_of : List ℕ → Option ℕ
budget_of word = option_and_then (λ firings. only_if (is_budget firings) firings) (short_number word)

-- the budget that the word after `--firings` stands for, or the fault that it stands for none
abbrev pub budget_or_fault : Option ℕ → Result ℕ UsageKind
budget_or_fault (Some budget) = Ok budget
budget_or_fault None = Err usage.Number

-- the budget that the words behind the files ask for: 1,000,000 where there are none
abbrev pub budget_asked : List (List ℕ) → Result ℕ UsageKind
budget_asked [] = Ok 1000000
budget_asked (option ∷ number ∷ []) = if bytes_eq option (codes "--firings") then budget_or_fault (budget_of number) else Err usage.Words
budget_asked other = Err usage.Words

-- what is asked for with these two files and these words behind them
abbrev pub asked_with : List ℕ → Option (List ℕ) → List (List ℕ) → Result Asked UsageKind
asked_with program memory rest = budget_asked rest >>= λ budget. Ok (record { program = program; memory = memory; budget = budget })

-- what is asked for with this program file and these words behind it: the first of them may name a memory file
abbrev pub asked_behind : List ℕ → List (List ℕ) → Result Asked UsageKind
asked_behind program [] = asked_with program None []
asked_behind program (word ∷ rest) = if names_file word then asked_with program (Some word) rest else asked_with program None (word ∷ rest)

-- what words ask for, or what is wrong with them
abbrev pub asked_by : List (List ℕ) → Result Asked UsageKind
asked_by (command ∷ program ∷ rest) = if bytes_eq command (codes "run") && names_file program then asked_behind program rest else Err usage.Words
asked_by other = Err usage.Words

-- the words ask for something of which this holds
pub record AsksFor (words : List (List ℕ)) (P : Asked → Type 0) : Type 0 where
  pub asked : Asked
  pub by_words : asked_by words ≡ Ok asked
  pub holds : P asked
