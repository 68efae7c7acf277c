-- Numbers under hashes, as callers see them.
use Rattle.std.specs.Prelude.{ℕ, Bool, ◌==◌, ◌||◌, List, filter, map, not}

-- the hashes and numbers that are filed, in the order of filing, and how many links there are, unlinked ones too
pub record Buckets : Type 0 where
  pub entries : List (ℕ × ℕ)
  pub links : ℕ

-- the numbers under a hash, in the order of filing
abbrev pub numbers_of : List (ℕ × ℕ) → ℕ → List ℕ
numbers_of entries hash = map (λ e. e.1) (filter (λ e. e.0 == hash) entries)

-- whether an entry stays where the bucket of a hash is cleaned of the numbers that don't live
abbrev pub stays : ℕ → (ℕ → Bool) → ℕ × ℕ → Bool
stays hash lives entry = not (entry.0 == hash) || lives entry.1
