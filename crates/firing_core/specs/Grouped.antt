-- Places of a store in groups, by the values that their elements have at attributes of their class.
use Rattle.std.specs.Prelude.{◌≡◌, ℕ, ◌<◌, ◌≤◌, List, [], ◌∷◌, Bool, false, true, Option, length, option_map, slice_get}
use Rattle.std.specs.Option.{option_map_or}
use Rattle.rule_base.specs.declared.value.Value.{Value}
use Rattle.rule_base.specs.declared.element.Element.{Element}
use Rattle.working_memory.specs.declared.groups.Key.{Key}
use Rattle.working_memory.specs.Groups.{Groups, group, same_key}
use Rattle.firing_core.specs.PinnedKeys.{is_grouped}
use Rattle.firing_core.specs.Store.{Stored, came, living}
use Rattle.rule_base.specs.Numbers.{has_number}

-- places of a store in groups, how many of its places were taken in, and for each class the attributes by which its elements are grouped
pub record Grouping : Type 0 where
  pub groups : Groups
  pub seen : ℕ
  pub attributes : List (List ℕ)

-- the key that an element has by an attribute, if it has that
abbrev pub key_at : Element → ℕ → Option Key
key_at e attr = option_map (λ (v : Value). record { class = e.class; attribute = attr; value = v }) (slice_get e.values attr)

-- whether an element has a key
abbrev pub has_key : Key → Element → Bool
has_key key e = option_map_or (λ (k : Key). same_key k key) (key_at e key.attribute) false

-- a place is in the group of each key that the element has by one of these attributes
abbrev pub IsInGroups : Groups → List ℕ → Element → ℕ → Type 0
IsInGroups groups attributes e place = (key : Key) → has_key key e ≡ true → has_number attributes key.attribute ≡ true → has_number (group groups key) place ≡ true

-- the element that lives at a place, if one does, has the place in the group of each key that it has and that is grouped
abbrev pub IsInItsGroups : Groups → List (List ℕ) → Stored → ℕ → Type 0
IsInItsGroups groups attributes stored place =
    (key : Key) (e : Element) → living stored place ≡ e ∷ [] → has_key key e ≡ true → is_grouped attributes key.class key.attribute ≡ true → has_number (group groups key) place ≡ true

-- of the places of the store so many were taken in, and each of these is in its groups; what else is there does no harm
pub record IsGroupingOf (g : Grouping) (stored : Stored) : Type 0 where
  pub within : g.seen ≤ length (came stored.base stored.entries)
  pub complete : (place : ℕ) → place < g.seen → IsInItsGroups g.groups g.attributes stored place

-- all places of the store were taken in
pub record IsWholeGroupingOf (g : Grouping) (stored : Stored) : Type 0 where
  pub grouping : IsGroupingOf g stored
  pub whole : g.seen ≡ length (came stored.base stored.entries)

-- each place that was in a group is in it later
abbrev pub HasGrown : Groups → Groups → Type 0
HasGrown old new = (key : Key) (place : ℕ) → has_number (group old key) place ≡ true → has_number (group new key) place ≡ true
