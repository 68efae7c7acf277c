-- Working memory: a list of elements with rising time tags.
use Rattle.std.specs.Prelude.{◌≡◌, ℕ, ◌<◌, Bool, ◌&&◌, List, [], ◌∷◌, length, map, Option, Some, slice_get, find, ◌==◌}
use Rattle.std.specs.List.{AllByRecursion, filter_map, sum_by}
use lib.Pointwise.{pointwise}
use Rattle.rule_base.specs.declared.element.Element.{Element}
use Rattle.rule_base.specs.Value.{same_value}

abbrev pub Memory : Type 0
Memory = List Element

-- the tags of the elements, in order
abbrev pub tags_of : Memory → List ℕ
tags_of memory = map (λ (e : Element). e.tag) memory

-- the element with this tag, if it is there
abbrev pub element_at : Memory → ℕ → Option Element
element_at memory tag = find (λ (e : Element). e.tag == tag) memory

-- the elements with these tags, in the tags' order; a tag that is not there is passed over
abbrev pub elements_at : Memory → List ℕ → List Element
elements_at memory tags = filter_map (element_at memory) tags

-- whether two elements are the same: tag, class and values
abbrev pub same_element : Element → Element → Bool
same_element e other = (e.tag == other.tag) && (e.class == other.class) && pointwise same_value e.values other.values

-- how many values the elements have, together
abbrev pub value_count : Memory → ℕ
value_count memory = sum_by (λ (e : Element). length e.values) memory

-- numbers that rise strictly, each above the one before it and the first above this one
abbrev pub RisesFrom : ℕ → List ℕ → Type 0
RisesFrom below [] = Unit {0}
RisesFrom below (n ∷ ns) = (below < n) × RisesFrom n ns

-- numbers that rise strictly
abbrev pub Rises : List ℕ → Type 0
Rises [] = Unit {0}
Rises (n ∷ ns) = RisesFrom n ns

-- the element's class has a size, and the element as many values; the sizes are those of all classes, in order
abbrev pub HasSize : List ℕ → Element → Type 0
HasSize sizes e = slice_get sizes e.class ≡ Some (length e.values)

-- a list of elements is a working memory for classes of these sizes
pub record IsMemory (sizes : List ℕ) (memory : List Element) : Type 0 where
  pub rising : Rises (tags_of memory)
  pub sized : AllByRecursion (HasSize sizes) memory
