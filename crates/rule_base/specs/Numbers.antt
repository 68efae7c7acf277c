-- Lists of numbers: tags, places, attributes.
use Rattle.std.specs.Prelude.{ℕ, List, Bool, ◌==◌}
use Rattle.std.specs.List.{list_any}
use Rattle.std.specs.Str.{bytes_eq}

-- whether a number is among these
abbrev pub has_number : List ℕ → ℕ → Bool
has_number numbers number = list_any (λ n. n == number) numbers

-- whether two lists are the same, number by number
abbrev pub same_numbers : List ℕ → List ℕ → Bool
same_numbers = bytes_eq
