-- The elements of a run: those that its base has and those that its firings made, and which of them are in working memory.
use Rattle.std.specs.Prelude.{◌≡◌, ℕ, ◌+◌, ◌<◌, List, [], ◌∷◌, ◌++◌, true, Option, None, Some, filter, filter_map, length, slice_get}
use Rattle.std.specs.List.{AllByRecursion}
use Rattle.rule_base.specs.declared.base.Base.{Base}
use Rattle.rule_base.specs.declared.element.Element.{Element}
use Rattle.rule_base.specs.declared.entry.Entry.{Entry}
use Rattle.rule_base.specs.Memory.{Memory, Rises, element_at, tags_of}
use Rattle.rule_base.specs.Opening.{AreConsecutive}
use Rattle.commit_journal.specs.declared.room.Room.{Room}
use Rattle.commit_journal.specs.Entries.{born_in}
use Rattle.working_memory.specs.Memory.{Places}
use Rattle.rule_base.specs.Numbers.{has_number}

-- every element that came: those of the base, and behind them those that were born in the entries
abbrev pub came : Base → List Entry → List Element
came base entries = base.elements ++ born_in entries

-- those of them at these places
abbrev pub at_places : List Element → List ℕ → Memory
at_places elements places = filter_map (slice_get elements) places

-- what contracts see of a store: the base, the entries behind it, the next tag, the places in working memory, and what it has room for
pub record Stored : Type 0 where
  pub base : Base
  pub entries : List Entry
  pub next : ℕ
  pub places : List ℕ
  pub room : Room
  pub spare : ℕ

-- the working memory
abbrev pub memory_in : Stored → Memory
memory_in stored = at_places (came stored.base stored.entries) stored.places

-- what holds of the parts of a store: each element that came has a place, and tags rise with places
pub record IsStored (base : Base) (entries : List Entry) (next : ℕ) (memory : Places) : Type 0 where
  pub counted : memory.came ≡ length base.elements + length (born_in entries)
  pub below : AllByRecursion (λ place. place < memory.came) memory.places
  pub rising : Rises (tags_of base.elements)
  pub given : AllByRecursion (λ (e : Element). e.tag < base.next) base.elements
  pub born : AreConsecutive base.next (tags_of (born_in entries))
  pub next_is : next ≡ base.next + length (born_in entries)

-- where the element with a tag lies among elements, if one has it
abbrev pub IsPlaceOf : List Element → ℕ → Option ℕ → Type 0
IsPlaceOf elements tag None = element_at elements tag ≡ None
IsPlaceOf elements tag (Some place) = (e : Element) × (slice_get elements place ≡ Some e) × (e.tag ≡ tag)

-- two stores differ in their working memory alone, of which the later has no more
pub record IsSameBesideMemory (old new : Stored) : Type 0 where
  pub base : new.base ≡ old.base
  pub entries : new.entries ≡ old.entries
  pub next : new.next ≡ old.next
  pub room : new.room ≡ old.room
  pub fewer : (place : ℕ) → has_number new.places place ≡ true → has_number old.places place ≡ true

-- a store is another's later on: its base is the same, further entries stand behind the others, and of the places to which an element had come
-- no more are in working memory
pub record IsLater (old new : Stored) : Type 0 where
  pub base : new.base ≡ old.base
  pub more : List Entry
  pub entries : new.entries ≡ old.entries ++ more
  pub fewer : (place : ℕ) → place < length (came old.base old.entries) → has_number new.places place ≡ true → has_number old.places place ≡ true

-- the elements at these places that are in working memory
abbrev pub living_at : Stored → List ℕ → Memory
living_at stored places = at_places (came stored.base stored.entries) (filter (has_number stored.places) places)

-- the element at a place, if it is in working memory
abbrev pub living : Stored → ℕ → Memory
living stored place = living_at stored (place ∷ [])
