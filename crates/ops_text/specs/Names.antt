-- Names and their numbers.
use Rattle.std.specs.Prelude.{◌≡◌, ◌≢◌, ◌<◌, ◌^◌, ℕ, List, [], ◌∷◌, ◌++◌, Some, codes, length, slice_get, if◌then◌else◌, AllPairs}
use Rattle.std.specs.List.{list_any, position_or_len}
use Rattle.std.specs.Str.{bytes_eq}

-- names, each a list of bytes, in the order of their arrival: a name's number is its place
abbrev pub Names : Type 0
Names = List (List ℕ)

-- the number of a name: its place, or the next number where it is new
abbrev pub number_of : Names → List ℕ → ℕ
number_of names name = position_or_len (bytes_eq name) names

-- the names once this one has a number
abbrev pub with_name : Names → List ℕ → Names
with_name names name = if list_any (bytes_eq name) names then names else names ++ name ∷ []

-- each name stands at the number that it had
abbrev pub KeepsNumbers : Names → Names → Type 0
KeepsNumbers old new = (number : ℕ) (name : List ℕ) → slice_get old number ≡ Some name → slice_get new number ≡ Some name

-- no name comes twice
abbrev pub AreDistinct : Names → Type 0
AreDistinct names = AllPairs (λ earlier later. earlier ≢ later) names

-- what holds of the names in a store: `nil` is the first, no name comes twice, and each number fits 32 bits
pub record AreNames (names : Names) : Type 0 where
  pub nil_first : slice_get names 0 ≡ Some (codes "nil")
  pub distinct : AreDistinct names
  pub few : length names < 2 ^ 32

-- numbers are one to one with names
pub record AreOneToOne (names : Names) : Type 0 where
  -- a name that stands at a place has that place as its number
  pub number : (place : ℕ) (name : List ℕ) → slice_get names place ≡ Some name → number_of names name ≡ place
  -- a name stands at one place alone
  pub place : (first second : ℕ) (name : List ℕ) → slice_get names first ≡ Some name → slice_get names second ≡ Some name → first ≡ second

-- distinct names are one to one with their numbers
abbrev pub NumbersAreOneToOne : Type 0
NumbersAreOneToOne = (names : Names) → AreDistinct names → AreOneToOne names
