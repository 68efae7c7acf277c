-- How an effect lies in flat arrays: where the elements that it makes lie in a list of values.
use Rattle.std.specs.Prelude.{ℕ, ◌+◌, ◌≤◌, List, [], ◌∷◌, Bool, drop, length, map, take}
use Rattle.std.specs.List.{AllByRecursion}
use Rattle.rule_base.specs.declared.value.Value.{Value}
use Rattle.rule_base.specs.declared.change.Change.{Change}
use Rattle.rule_base.specs.declared.change.Change.TheVariants as change
use Rattle.rule_base.specs.declared.change.Piece.{Piece}
use Rattle.rule_base.specs.Effect.{Effect}
use Rattle.rhs_actions.specs.declared.effect.Placed.{Placed}
use Rattle.rhs_actions.specs.declared.effect.Placed.TheVariants.{Remove, Make}

-- the change that lies at a place among the values
abbrev pub change_of : List Value → Placed → Change
change_of values (Remove tag) = change.Remove tag
change_of values (Make start size class) = change.Make class (take size (drop start values))

-- the changes that lie at places, in order
abbrev pub changes_in : List Value → List Placed → List Change
changes_in values places = map (change_of values) places

-- the effect of these parts
abbrev pub effect_in : List Value → List Placed → List Piece → Bool → Effect
effect_in values places pieces halts = record { changes = changes_in values places; pieces = pieces; halts = halts }

-- the tags that changes at places remove, in order
abbrev pub tags_at : List Placed → List ℕ
tags_at [] = []
tags_at (Remove tag ∷ places) = tag ∷ tags_at places
tags_at (Make start size class ∷ places) = tags_at places

-- all values of the place are there
abbrev pub IsWithin : List Value → Placed → Type 0
IsWithin values (Remove tag) = Unit {0}
IsWithin values (Make start size class) = start + size ≤ length values

abbrev pub AreWithin : List Value → List Placed → Type 0
AreWithin values places = AllByRecursion (IsWithin values) places

-- how many values lie at a place, and at all of these
abbrev pub size_of : Placed → ℕ
size_of (Remove tag) = 0
size_of (Make start size class) = size

abbrev pub sizes_of : List Placed → ℕ
sizes_of [] = 0
sizes_of (place ∷ places) = size_of place + sizes_of places

-- all values of the places are there, and together they are no more than there are
pub record LieAmong (values : List Value) (places : List Placed) : Type 0 where
  pub within : AreWithin values places
  pub few : sizes_of places ≤ length values
