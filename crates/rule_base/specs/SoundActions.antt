-- Sound actions: designators, attributes and sizes in range, and each variable that has a value where it is used.
use Rattle.std.specs.Prelude.{◌≡◌, ℕ, ◌<◌, ◌≤◌, List, [], ◌∷◌, Some, length, slice_get, slice_index}
use Rattle.std.specs.List.{AllByRecursion}
use Rattle.rule_base.specs.declared.action.Term.{Term}
use Rattle.rule_base.specs.declared.action.Term.TheVariants as term
use Rattle.rule_base.specs.declared.action.Item.{Item}
use Rattle.rule_base.specs.declared.action.Item.TheVariants as item
use Rattle.rule_base.specs.declared.action.Action.{Action}
use Rattle.rule_base.specs.declared.action.Action.TheVariants as action
use Rattle.rule_base.specs.Expression.{Tree, single, joined, Leaf, number, variable, parentheses, tree_of, depth}
use Rattle.rule_base.specs.SoundConditions.{IsKnown}

-- each variable of an expression has a value
abbrev mutual
  pub SoundTree : ℕ → List ℕ → Tree → Type 0
  SoundTree vars known (single operand) = SoundLeaf vars known operand
  SoundTree vars known (joined operand op rest) = SoundLeaf vars known operand × SoundTree vars known rest

  pub SoundLeaf : ℕ → List ℕ → Leaf → Type 0
  SoundLeaf vars known (number z) = Unit {0}
  SoundLeaf vars known (variable var) = IsKnown vars known var
  SoundLeaf vars known (parentheses inner) = SoundTree vars known inner

-- a term of values that are known, with at most 32 parentheses in one another
abbrev pub SoundTerm : ℕ → List ℕ → Term → Type 0
SoundTerm vars known (term.Con value) = Unit {0}
SoundTerm vars known (term.Var var) = IsKnown vars known var
SoundTerm vars known (term.Compute expression) = SoundTree vars known (tree_of expression) × (depth (tree_of expression) ≤ 32)

-- the settings of a make or modify of a class of this size
abbrev pub SoundSets : ℕ → ℕ → List ℕ → List (ℕ × Term) → Type 0
SoundSets size vars known sets = AllByRecursion (λ (set : ℕ × Term). (set.0 < size) × SoundTerm vars known set.1) sets

-- an item of a write
abbrev pub SoundItem : ℕ → List ℕ → Item → Type 0
SoundItem vars known (item.Put put) = SoundTerm vars known put
SoundItem vars known item.Crlf = Unit {0}
SoundItem vars known (item.Tabto column) = Unit {0}
SoundItem vars known (item.Rjust width) = Unit {0}

-- an action of a rule whose positive condition elements have these classes
abbrev pub SoundAction : List ℕ → List ℕ → ℕ → List ℕ → Action → Type 0
SoundAction sizes classes vars known (action.Make class size sets) = (slice_get sizes class ≡ Some size) × SoundSets size vars known sets
SoundAction sizes classes vars known (action.Modify at sets) =
    (at < length classes) × SoundSets (slice_index sizes (slice_index classes at)) vars known sets
SoundAction sizes classes vars known (action.Remove ats) = AllByRecursion (λ at. at < length classes) ats
SoundAction sizes classes vars known (action.Bind var term) = (var < vars) × SoundTerm vars known term
SoundAction sizes classes vars known (action.Write items) = AllByRecursion (SoundItem vars known) items
SoundAction sizes classes vars known action.Halt = Unit {0}

-- the variables that have a value after an action
abbrev pub known_after_action : List ℕ → Action → List ℕ
known_after_action known (action.Make class size sets) = known
known_after_action known (action.Modify at sets) = known
known_after_action known (action.Remove ats) = known
known_after_action known (action.Bind var term) = var ∷ known
known_after_action known (action.Write items) = known
known_after_action known action.Halt = known

-- actions in order
abbrev pub SoundActions : List ℕ → List ℕ → ℕ → List ℕ → List Action → Type 0
SoundActions sizes classes vars known [] = Unit {0}
SoundActions sizes classes vars known (first ∷ actions) =
    SoundAction sizes classes vars known first × SoundActions sizes classes vars (known_after_action known first) actions
