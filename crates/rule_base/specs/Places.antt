-- Where elements lie in a list of values.
use Rattle.std.specs.Prelude.{ℕ, ◌+◌, ◌≤◌, ◌==◌, List, drop, filter, length, map, not, take}
use Rattle.std.specs.List.{AllByRecursion, list_any}
use Rattle.rule_base.specs.declared.value.Value.{Value}
use Rattle.rule_base.specs.declared.element.Element.{Element}
use Rattle.rule_base.specs.declared.elements.Place.{Place}

-- the element that lies at a place among the values
abbrev pub element_of : List Value → Place → Element
element_of values place = record { tag = place.tag; class = place.class; values = take place.size (drop place.start values) }

-- the elements that lie at places, in order
abbrev pub elements_in : List Value → List Place → List Element
elements_in values places = map (element_of values) places

-- all values of the place are there
abbrev pub IsWithin : List Value → Place → Type 0
IsWithin values place = place.start + place.size ≤ length values

abbrev pub AreWithin : List Value → List Place → Type 0
AreWithin values places = AllByRecursion (IsWithin values) places

-- the place so far behind
abbrev pub moved_by : ℕ → Place → Place
moved_by by place = record place { start = by + place.start }

-- the places without those of the elements with these tags
abbrev pub places_without : List Place → List ℕ → List Place
places_without places tags = filter (λ (place : Place). not (list_any (λ tag. tag == place.tag) tags)) places
