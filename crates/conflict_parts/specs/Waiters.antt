-- Who waits at which place.
use Rattle.std.specs.Prelude.{ℕ, ◌<◌, ◌==◌, List, filter, length, map, slice_index_or}
use Rattle.std.specs.List.{AllByRecursion}
use Rattle.conflict_parts.specs.declared.standing.RowId.{RowId}

-- those who wait at a place, in the order in which they came to wait
abbrev pub waiters_at : List (ℕ × RowId) → ℕ → List RowId
waiters_at waiters place = map (λ (w : ℕ × RowId). w.1) (filter (λ (w : ℕ × RowId). w.0 == place) waiters)

-- what stands past the end of a list of full matches
abbrev pub no_id : RowId
no_id = record { rule = 0; row = 0 }

-- the full match with a number
abbrev pub id_at : List RowId → ℕ → RowId
id_at ids number = slice_index_or ids number no_id

-- places with numbers of full matches, as places with full matches
abbrev pub waiters_of : List RowId → List (ℕ × ℕ) → List (ℕ × RowId)
waiters_of ids entries = map (λ (e : ℕ × ℕ). (e.0, id_at ids e.1)) entries

-- each number is that of a full match
abbrev pub AreWithin : List RowId → List (ℕ × ℕ) → Type 0
AreWithin ids entries = AllByRecursion (λ (e : ℕ × ℕ). e.1 < length ids) entries
