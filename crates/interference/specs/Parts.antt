-- Parts of a program's rules, for workers that share them.
use Rattle.std.specs.Prelude.{ℕ, ◌%◌, List, filter, map, ◌==◌}
use Rattle.std.specs.List.{range_with_len}

-- the rules of one part, of so many rules and parts: rule k is in the part that is the remainder of k by the number of parts
abbrev pub part : ℕ → ℕ → ℕ → List ℕ
part rules count number = filter (λ rule. rule % count == number) (range_with_len 0 rules)

-- all parts
abbrev pub parts : ℕ → ℕ → List (List ℕ)
parts rules count = map (part rules count) (range_with_len 0 count)
