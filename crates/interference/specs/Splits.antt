-- Splits: the attribute by which a class falls into regions.
use Rattle.std.specs.Prelude.{ℕ, List, Bool, ◌&&◌, Option, filter, find, length, map, nat_le, nat_lt, slice_get, sum_by, ◌==◌}
use Rattle.std.specs.List.{enumerate_from, list_all, range_with_len}
use Rattle.std.specs.Option.{option_flatten}
use Rattle.rule_base.specs.declared.condition.Cond.{Cond}
use Rattle.rule_base.specs.declared.program.Rule.{Rule}
use Rattle.rule_base.specs.declared.program.Class.{Class}
use Rattle.rule_base.specs.declared.program.Program.{Program}
use Rattle.interference.specs.Pins.{pins}

-- whether a condition element is a negated one of the class, and pins the attribute
abbrev pub is_pinning : ℕ → ℕ → List Cond → Cond → Bool
is_pinning class attr conds cond = cond.negated && (cond.class == class) && pins conds attr cond

-- how many negated condition elements of the class pin the attribute, over all rules
abbrev pub pin_count : List Rule → ℕ → ℕ → ℕ
pin_count rules class attr = sum_by (λ (rule : Rule). length (filter (is_pinning class attr rule.conds) rule.conds)) rules

-- whether some of them pin the attribute, and no other attribute is pinned by more
abbrev pub is_most_pinned : List Rule → ℕ → List ℕ → ℕ → Bool
is_most_pinned rules class attrs attr =
    nat_lt 0 (pin_count rules class attr) && list_all (λ other. nat_le (pin_count rules class other) (pin_count rules class attr)) attrs

-- the split of a class with so many attributes: the first that is pinned most, and none where none is pinned
abbrev pub split : List Rule → ℕ → ℕ → Option ℕ
split rules class size = find (is_most_pinned rules class (range_with_len 0 size)) (range_with_len 0 size)

-- the splits of classes, in order
abbrev pub splits_by : List Rule → List Class → List (Option ℕ)
splits_by rules classes = map (λ (numbered : ℕ × Class). split rules numbered.0 (length numbered.1.attrs)) (enumerate_from 0 classes)

-- the splits of a program's classes
abbrev pub splits_of : Program → List (Option ℕ)
splits_of program = splits_by program.rules program.classes

-- the split of a class among those of all classes
abbrev pub split_of : List (Option ℕ) → ℕ → Option ℕ
split_of splits class = option_flatten (slice_get splits class)
