-- When choices last fired, and what an index tells of that.
use Rattle.std.specs.Prelude.{◌≡◌, ◌+◌, ℕ, List, [], ◌∷◌, Option, None}
use Rattle.std.specs.List.{list_any}
use Rattle.std.specs.Option.{option_or}
use Rattle.rule_base.specs.Chains.{only_if}
use Rattle.rule_base.specs.State.{same_choice}
use Rattle.rule_base.specs.declared.entry.Entry.{Entry}
use Rattle.rule_base.specs.declared.instantiation.Choice.{Choice}
use Rattle.refraction_index.specs.Numbers.{Numbers, number_of}

-- how many entries there were when the choice had last fired, by entries that came behind so many others; none where it
-- isn't among them
abbrev pub last_from : ℕ → List Entry → Choice → Option ℕ
last_from count [] choice = None
last_from count (entry ∷ entries) choice =
    option_or (last_from (count + 1) entries choice) (only_if (same_choice choice entry.choice) (count + 1))

-- how many entries there were when the choice had last fired: 0 where it had fired before the journal begins; none where
-- it hasn't fired
abbrev pub fired_at : List Choice → List Entry → Choice → Option ℕ
fired_at before entries choice = option_or (last_from 0 entries choice) (only_if (list_any (same_choice choice) before) 0)

-- an index: how many entries it has taken in, and the numbers that it has for choices
pub record Index : Type 0 where
  pub seen : ℕ
  pub numbers : Numbers

-- how many entries there were when the choice had last fired, by the index
abbrev pub place_of : Index → Choice → Option ℕ
place_of index choice = number_of index.numbers choice

-- the index tells of each choice when it last fired, by what had fired before and these entries
abbrev pub Tells : List Choice → List Entry → Index → Type 0
Tells before entries index = (choice : Choice) → place_of index choice ≡ fired_at before entries choice
