-- What footprints add to the words of their locks.
use Rattle.std.specs.Prelude.{◌≡◌, ℕ, ◌+◌, ◌<◌, List, [], ◌∷◌, if◌then◌else◌, get_or, map, ◌==◌}
use Rattle.std.specs.List.{AllByRecursion}
use Rattle.rule_base.specs.declared.lock.Mode.{Mode}
use Rattle.rule_base.specs.Memory.{Rises}
use Rattle.interference.specs.Locks.{lock_count}
use Rattle.interference.specs.Words.{amount, word_of}

-- what demands add up to on a lock
abbrev pub amounts : List (ℕ × Mode) → ℕ → ℕ
amounts [] lock = 0
amounts (demand ∷ demands) lock = (if demand.0 == lock then amount demand.1 else 0) + amounts demands lock

-- each demand is of a lock that there is
abbrev pub AreOfLocks : List (ℕ × Mode) → Type 0
AreOfLocks demands = AllByRecursion (λ (d : ℕ × Mode). d.0 < lock_count) demands

-- demands of locks that there are, in rising order, so that each lock stands once
pub record IsFootprint (demands : List (ℕ × Mode)) : Type 0 where
  pub rising : Rises (map (λ (d : ℕ × Mode). d.0) demands)
  pub in_range : AreOfLocks demands

-- the words are those that footprints add up to; past the end of the list they are 0
abbrev pub AreWordsOf : List (List (ℕ × Mode)) → List ℕ → Type 0
AreWordsOf footprints words = (lock : ℕ) → get_or words lock 0 ≡ word_of footprints lock
