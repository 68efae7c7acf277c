-- The elements that a run makes, with consecutive tags.
use Rattle.std.specs.Prelude.{ℕ, ◌+◌, List, [], ◌∷◌}
use Rattle.rule_base.specs.declared.value.Value.{Value}
use Rattle.rule_base.specs.declared.element.Element.{Element}

-- the elements with these classes and values, and with consecutive tags from this one on
abbrev pub numbered : ℕ → List ℕ → List (List Value) → List Element
numbered tag [] lists = []
numbered tag (class ∷ classes) [] = []
numbered tag (class ∷ classes) (values ∷ lists) = record { tag = tag; class = class; values = values } ∷ numbered (tag + 1) classes lists

-- elements, the tag of the next one, for how many more there is room, and for how many more values of theirs
pub record Made : Type 0 where
  pub elements : List Element
  pub next : ℕ
  pub more_elements : ℕ
  pub more_values : ℕ
