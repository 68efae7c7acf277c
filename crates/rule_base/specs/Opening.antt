-- Openings: the elements that a run begins with.
use Rattle.std.specs.Prelude.{◌≡◌, ℕ, ◌+◌, ◌^◌, ◌<◌, List, [], ◌∷◌, length}
use Rattle.rule_base.specs.declared.element.Element.{Element}
use Rattle.rule_base.specs.Memory.{IsMemory, tags_of}

-- so many numbers, one after another, from this one on
abbrev pub AreConsecutive : ℕ → List ℕ → Type 0
AreConsecutive next [] = Unit {0}
AreConsecutive next (n ∷ ns) = (n ≡ next) × AreConsecutive (next + 1) ns

-- the elements are a working memory for classes of these sizes, with the tags from 1 to their number
pub record IsOpening (sizes : List ℕ) (elements : List Element) : Type 0 where
  pub memory : IsMemory sizes elements
  pub consecutive : AreConsecutive 1 (tags_of elements)
  pub few : length elements < 2 ^ 62
