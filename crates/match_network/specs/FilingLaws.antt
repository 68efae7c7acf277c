-- What is filed stays right as elements come and go.
use Rattle.std.specs.Prelude.{◌≡◌, ℕ, ◌+◌, ◌<◌, List, [], ◌∷◌, ◌++◌, Bool, drop, filter, length, slice_set}
use Rattle.std.specs.List.{AllByRecursion}
use Rattle.rule_base.specs.declared.element.Element.{Element}
use Rattle.rule_base.specs.Numbers.{has_number}
use Rattle.join_tests.specs.declared.joins.Join.{Join}
use Rattle.match_network.specs.Conditions.{AreFiled, level_at}
use Rattle.match_network.specs.Filed.{IsStore, LevelRows, living_entries, packed, store_entries}

-- levels have nothing to do where an element comes
abbrev pub LevelsMeetArrivals : Type 0
LevelsMeetArrivals =
    (all : List Join) (came : List Element) (places : List ℕ) (e : Element) (levels : List LevelRows) →
    AllByRecursion (λ p. p < length came) places →
    AreFiled all came places levels → AreFiled all (came ++ e ∷ []) (places ++ length came ∷ []) levels

-- nor where elements go
abbrev pub LevelsMeetRemovals : Type 0
LevelsMeetRemovals =
    (all : List Join) (came : List Element) (places : List ℕ) (keep : ℕ → Bool) (levels : List LevelRows) →
    AreFiled all came places levels → AreFiled all came (filter keep places) levels

-- a store takes in an element that comes, if it passes
abbrev pub StoresMeetArrivals : Type 0
StoresMeetArrivals =
    (join : Join) (came : List Element) (places : List ℕ) (e : Element) (entries new : List (ℕ × ℕ)) →
    AllByRecursion (λ p. p < length came) places →
    new ≡ entries ++ store_entries join (came ++ e ∷ []) (length came ∷ []) →
    IsStore join came places entries → IsStore join (came ++ e ∷ []) (places ++ length came ∷ []) new

-- and has nothing to do where elements go
abbrev pub StoresMeetRemovals : Type 0
StoresMeetRemovals =
    (join : Join) (came : List Element) (places : List ℕ) (keep : ℕ → Bool) (entries : List (ℕ × ℕ)) →
    IsStore join came places entries → IsStore join came (filter keep places) entries

-- a level may be packed
abbrev pub LevelsMayBePacked : Type 0
LevelsMayBePacked =
    (all : List Join) (came : List Element) (places : List ℕ) (levels : List LevelRows) (number : ℕ) →
    number < length levels →
    AreFiled all came places levels →
    AreFiled all came places (slice_set levels number (packed (drop (number + 1) all) came places (level_at levels number)))

-- and a store may
abbrev pub StoresMayBePacked : Type 0
StoresMayBePacked =
    (join : Join) (came : List Element) (places : List ℕ) (entries : List (ℕ × ℕ)) →
    IsStore join came places entries → IsStore join came places (living_entries (has_number places) entries)
