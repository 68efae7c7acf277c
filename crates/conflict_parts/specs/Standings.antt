-- How full matches stand: a list for each rule, by the numbers of its full rows.
use Rattle.std.specs.Prelude.{ℕ, List, [], ◌∷◌, ◌++◌, Bool, true, false, Option, slice_get, slice_index_or, slice_set}
use Rattle.std.specs.Option.{option_map_or}
use Rattle.conflict_parts.specs.declared.standing.Standing.{Standing}
use Rattle.conflict_parts.specs.declared.standing.Standing.TheVariants.{Marked, Open, Waiting}

-- how a full match stands, by the number of its rule and its own, if it is there
abbrev pub standing_at : List (List Standing) → ℕ → ℕ → Option Standing
standing_at standings rule row = slice_get (slice_index_or standings rule []) row

-- whether it has fired
abbrev pub has_fired : Standing → Bool
has_fired Open = false
has_fired (Waiting place) = false
has_fired Marked = true

-- whether a full match is marked
abbrev pub is_marked : List (List Standing) → ℕ → ℕ → Bool
is_marked standings rule row = option_map_or has_fired (standing_at standings rule row) false

-- one full match stands otherwise, if it is there
abbrev pub with_set : List (List Standing) → ℕ → ℕ → Standing → List (List Standing)
with_set standings rule row standing = slice_set standings rule (slice_set (slice_index_or standings rule []) row standing)

-- a rule has one full match more
abbrev pub with_standing : List (List Standing) → ℕ → Standing → List (List Standing)
with_standing standings rule standing = slice_set standings rule (slice_index_or standings rule [] ++ standing ∷ [])
