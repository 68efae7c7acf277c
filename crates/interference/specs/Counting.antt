-- How often attributes are pinned, and how often they may be.
use Rattle.std.specs.Prelude.{◌≡◌, ℕ, ◌<◌, ◌≤◌, List, Option, Some, None, filter, length}
use Rattle.rule_base.specs.declared.condition.Cond.{Cond}
use Rattle.rule_base.specs.declared.program.Rule.{Rule}
use Rattle.interference.specs.Splits.{is_pinning, pin_count}

-- the rule has no more condition elements than the language allows
abbrev pub FewConds : Rule → Type 0
FewConds rule = length rule.conds ≤ 32

-- how many condition elements of one rule pin the attribute
abbrev pub pinning_count : ℕ → ℕ → List Cond → ℕ
pinning_count class attr conds = length (filter (is_pinning class attr conds) conds)

-- of the attributes below this one: the first that is pinned most, and how often it is
abbrev pub IsMost : List Rule → ℕ → ℕ → ℕ → Option ℕ → Type 0
IsMost rules class below most None = (most ≡ 0) × ((attr : ℕ) → attr < below → pin_count rules class attr ≡ 0)
IsMost rules class below most (Some attr) =
    (attr < below) × (pin_count rules class attr ≡ most) × (0 < most) × ((other : ℕ) → other < attr → pin_count rules class other < most) × ((other : ℕ) → other < below → pin_count rules class other ≤ most)
