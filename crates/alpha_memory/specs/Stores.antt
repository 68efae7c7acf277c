-- Alpha stores: what they ask of elements, and which are filed in them.
use Rattle.std.specs.Prelude.{ℕ, zero, suc, List, [], ◌∷◌, ◌++◌, ◌≡◌, ◌⊎◌, Bool, false, Some, filter, fold, if◌then◌else◌, length, map, option_map, slice_get}
use Rattle.std.specs.List.{sum_by}
use Rattle.std.specs.Option.{option_map_or}
use Rattle.hash_buckets.specs.Buckets.{stays}
use Rattle.rule_base.specs.declared.element.Element.{Element}
use Rattle.join_tests.specs.declared.joins.KeyPart.{KeyPart}
use Rattle.join_tests.specs.declared.joins.Pattern.{Pattern}
use Rattle.join_tests.specs.Reading.{value_at}
use Rattle.join_tests.specs.Joining.{passes}
use Rattle.join_tests.specs.Hashing.{hash_of}

-- what a store asks of elements, the attributes by which they are looked up, whether they are kept at all, and
-- the hashes and places that are filed, in the order of filing
pub record Store : Type 0 where
  pub pattern : Pattern
  pub attributes : List ℕ
  pub is_kept : Bool
  pub entries : List (ℕ × ℕ)

-- the attributes of a key
abbrev pub attributes_of : List KeyPart → List ℕ
attributes_of key = map (λ (part : KeyPart). part.attribute) key

-- the hash of an element's values at attributes
abbrev pub hash_at : List ℕ → Element → ℕ
hash_at attributes e = hash_of (map (value_at e) attributes)

-- a store that asks for this, with nothing in it
abbrev pub without_entries : Pattern → List KeyPart → Bool → Store
without_entries pattern key kept = record { pattern = pattern; attributes = attributes_of key; is_kept = kept; entries = [] }

-- a store that asks alike, with nothing in it
abbrev pub emptied : Store → Store
emptied store = record store { entries = [] }

-- whether the store lets the element in
abbrev pub admits : Element → Store → Bool
admits e store = passes store.pattern e

-- a store with one more place, if it keeps places
abbrev pub with_place : ℕ → Element → Store → Store
with_place place e store =
    if store.is_kept then record store { entries = store.entries ++ (hash_at store.attributes e, place) ∷ [] } else store

-- a store once an element has come to this place
abbrev pub filed : ℕ → Element → Store → Store
filed place e store = if admits e store then with_place place e store else store

-- a store without the places of one bucket that don't live
abbrev pub cleaned : ℕ → (ℕ → Bool) → Store → Store
cleaned hash lives store = record store { entries = filter (stays hash lives) store.entries }

-- a store without the places that don't live
abbrev pub packed : (ℕ → Bool) → Store → Store
packed lives store = record store { entries = filter (λ entry. lives entry.1) store.entries }

-- whether there is a store with this number, which passes a test
abbrev pub has_at : (Store → Bool) → List Store → ℕ → Bool
has_at test stores number = option_map_or test (slice_get stores number) false

-- stores, of which the one with this number has changed
abbrev pub with_change : (Store → Store) → ℕ → List Store → List Store
with_change change number [] = []
with_change change zero (store ∷ stores) = change store ∷ stores
with_change change (suc number) (store ∷ stores) = store ∷ with_change change number stores

-- stores, of which those with these numbers have changed, one after another
abbrev pub with_changes : (Store → Store) → List ℕ → List Store → List Store
with_changes change numbers stores = fold (λ ss number. with_change change number ss) stores numbers

-- the store with this number asks alike
abbrev pub Serves : Store → List Store → ℕ → Type 0
Serves wanted stores number = option_map emptied (slice_get stores number) ≡ Some (emptied wanted)

-- each store is as before, or as it is once the element has come
abbrev pub AreFiledOrNot : ℕ → Element → List Store → List Store → Type 0
AreFiledOrNot place e before after =
    (number : ℕ) → (slice_get after number ≡ slice_get before number) ⊎ (slice_get after number ≡ option_map (filed place e) (slice_get before number))

-- how many places are filed in all stores
abbrev pub places_filed : List Store → ℕ
places_filed stores = sum_by (λ (store : Store). length store.entries) stores
