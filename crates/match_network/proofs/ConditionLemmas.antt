-- The levels of a rule: each by its number, in parts and after a change.
use Rattle.std.proofs.Common.{◌≡◌, ℕ, ◌-◌, ◌<◌, List, [], ◌++◌, length, get_or, set, ap, sym, ◌∙◌, arith, length-append}
use Rattle.std.proofs.lemmas.List.{get_or_append_left, get_or-append_right, get_or_default, length-set, set-append_left, set-append_right}
use Rattle.match_network.specs.Conditions.{level_at}
use Rattle.match_network.specs.Filed.{LevelRows}

-- levels in two parts: the one before the cut, the one after it, and a change of the latter
pub front_at : (levels front back : List LevelRows) (number : ℕ) (other : LevelRows) → levels ≡ front ++ back → length front ≡ number → 0 < number → get_or front (number - 1) other ≡ level_at levels (number - 1)
front_at levels front back number other is long some =
    get_or_default front (number - 1) other (record { width = 0; rows = []; entries = [] }) (omega (arith, long, some))
    ∙ sym (get_or_append_left front back (record { width = 0; rows = []; entries = [] }) (number - 1) (omega (arith, long, some)))
    ∙ ap (λ ls. level_at ls (number - 1)) (sym is)

pub back_at : (levels front back : List LevelRows) (number : ℕ) (other : LevelRows) → levels ≡ front ++ back → length front ≡ number → number < length levels → get_or back 0 other ≡ level_at levels number
back_at levels front back number other is long within =
    get_or_default back 0 other (record { width = 0; rows = []; entries = [] }) (omega (arith, long, within, ap length is, length-append front back))
    ∙ ap (λ n. level_at back n) (let none : 0 ≡ number - number = omega arith in none)
    ∙ sym (get_or-append_right front back number number (record { width = 0; rows = []; entries = [] }) long (omega arith))
    ∙ ap (λ ls. level_at ls number) (sym is)

pub back_set : (levels front back : List LevelRows) (number : ℕ) (level : LevelRows) → levels ≡ front ++ back → length front ≡ number → front ++ set back 0 level ≡ set levels number level
back_set levels front back number level is long =
    ap (λ n. front ++ set back n level) (let none : 0 ≡ number - number = omega arith in none)
    ∙ sym (set-append_right front back number number level long (omega arith))
    ∙ ap (λ ls. set ls number level) (sym is)

pub both_set : (levels front back : List LevelRows) (number : ℕ) (before after : LevelRows) → levels ≡ front ++ back → length front ≡ number → 0 < number → set front (number - 1) before ++ set back 0 after ≡ set (set levels (number - 1) before) number after
both_set levels front back number before after is long some =
    back_set (set levels (number - 1) before) (set front (number - 1) before) back number after
    (ap (λ ls. set ls (number - 1) before) is ∙ set-append_left front back (number - 1) before (omega (arith, long, some)))
    (length-set front (number - 1) before ∙ long)
