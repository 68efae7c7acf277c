-- Lists that lie one behind another in one list of items.
use Rattle.std.specs.Prelude.{◌≡◌, ℕ, ◌-◌, ◌≤◌, ◌^◌, List, [], ◌∷◌, slice_range}

-- the lists that end at these places, each of which begins where the one before it ends, and the first one here
abbrev pub cut_from : {A : Type 0} → ℕ → List ℕ → List A → List (List A)
cut_from begin [] items = []
cut_from begin (end ∷ ends) items = slice_range items begin end ∷ cut_from end ends items

-- the lists that end at these places, the first of which begins with the items
abbrev pub cut : {A : Type 0} → List ℕ → List A → List (List A)
cut ends items = cut_from 0 ends items

-- the places rise from the first one to the last one
abbrev pub RiseTo : ℕ → List ℕ → ℕ → Type 0
RiseTo begin [] last = begin ≡ last
RiseTo begin (end ∷ ends) last = (begin ≤ end) × RiseTo end ends last

-- how many items there may be: places have 32 bits
abbrev pub most_items : ℕ
most_items = 2 ^ 32 - 1

-- lists, for how many more there is room, and for how many more items in them
pub record Kept (A : Type 0) : Type 0 where
  pub lists : List (List A)
  pub more_lists : ℕ
  pub more_items : ℕ
