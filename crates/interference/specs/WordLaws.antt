-- Laws of lock words: what is told busy is what clashes.
use Rattle.std.specs.Prelude.{◌≡◌, ◌<◌, ◌^◌, ◌↔◌, ℕ, List, None, length, map}
use Rattle.std.specs.List.{AllByRecursion}
use Rattle.rule_base.specs.declared.lock.Mode.{Mode}
use Rattle.rule_base.specs.Memory.{Rises}
use Rattle.interference.specs.Footprint.{Clash}
use Rattle.interference.specs.Words.{first_busy, word_of}

-- a footprint clashes with none of these
abbrev pub IsClear : List (List (ℕ × Mode)) → List (ℕ × Mode) → Type 0
IsClear others footprint = AllByRecursion (λ other. Clash other footprint → ⊥) others

-- the words of few footprints leave room for a further one exactly where it clashes with none of them
abbrev pub WordsTellClashes : Type 0
WordsTellClashes = (others : List (List (ℕ × Mode))) (footprint : List (ℕ × Mode)) → length others < 2 ^ 20 → Rises (map (λ (d : ℕ × Mode). d.0) footprint)
    → (first_busy (word_of others) footprint ≡ None) ↔ IsClear others footprint
