-- The room that the entry of any firing of a program needs at most. The program alone tells it, so it is computed once,
-- before anything fires.
use Rattle.std.specs.Prelude.{◌≡◌, ℕ, List, [], ◌∷◌, Ok, Some, length, map, max, slice_get}
use Rattle.std.specs.List.{AllByRecursion, sum_by}
use Rattle.rule_base.specs.declared.element.Element.{Element}
use Rattle.rule_base.specs.declared.action.Action.{Action}
use Rattle.rule_base.specs.declared.action.Action.TheVariants as action
use Rattle.rule_base.specs.declared.program.Rule.{Rule}
use Rattle.rule_base.specs.declared.program.Program.{Program}
use Rattle.rule_base.specs.Effect.{Effect, effect, removed_tags}
use Rattle.rule_base.specs.Memory.{HasSize}
use Rattle.rule_base.specs.Sound.{sizes_of}
use Rattle.rule_base.specs.Step.{born}
use Rattle.commit_journal.specs.declared.room.Room.{Room}
use Rattle.commit_journal.specs.Room.{FitsIn, larger_room, room_for}

-- the greatest of these numbers, or 0 where there are none
abbrev pub greatest : List ℕ → ℕ
greatest [] = 0
greatest (n ∷ ns) = max n (greatest ns)

-- the widest class of a program: how many values an element has at most, one for each attribute
abbrev pub widest : Program → ℕ
widest program = greatest (sizes_of program.classes)

-- how many elements an action takes away at most: a modify one, and a remove as many as it names
abbrev pub most_gone : Action → ℕ
most_gone (action.Make class size sets) = 0
most_gone (action.Modify at sets) = 1
most_gone (action.Remove ats) = length ats
most_gone (action.Bind var term) = 0
most_gone (action.Write items) = 0
most_gone action.Halt = 0

-- how many elements it makes at most: a make and a modify one each
abbrev pub most_born : Action → ℕ
most_born (action.Make class size sets) = 1
most_born (action.Modify at sets) = 1
most_born (action.Remove ats) = 0
most_born (action.Bind var term) = 0
most_born (action.Write items) = 0
most_born action.Halt = 0

-- how many values these have: as many as their class, and where an element is modified, no more than the widest class
abbrev pub most_values : ℕ → Action → ℕ
most_values width (action.Make class size sets) = size
most_values width (action.Modify at sets) = width
most_values width (action.Remove ats) = 0
most_values width (action.Bind var term) = 0
most_values width (action.Write items) = 0
most_values width action.Halt = 0

-- how many pieces it writes at most: one for each item
abbrev pub most_pieces : Action → ℕ
most_pieces (action.Make class size sets) = 0
most_pieces (action.Modify at sets) = 0
most_pieces (action.Remove ats) = 0
most_pieces (action.Bind var term) = 0
most_pieces (action.Write items) = length items
most_pieces action.Halt = 0

-- what one action adds at most
abbrev pub room_of_action : ℕ → Action → Room
room_of_action width a = record { entries = 0; tags = 0; gone = most_gone a; elements = most_born a; values = most_values width a; pieces = most_pieces a }

-- what the entry of a firing of the rule needs at most: it is one entry, with a tag for each positive condition element,
-- and with what the actions add together
abbrev pub room_of_rule : ℕ → Rule → Room
room_of_rule width rule = record {
  entries = 1;
  tags = rule.positives;
  gone = sum_by most_gone rule.actions;
  elements = sum_by most_born rule.actions;
  values = sum_by (most_values width) rule.actions;
  pieces = sum_by most_pieces rule.actions;
}

-- the room that holds what any of these holds
abbrev pub largest_room : List Room → Room
largest_room [] = record { entries = 0; tags = 0; gone = 0; elements = 0; values = 0; pieces = 0 }
largest_room (room ∷ rooms) = larger_room room (largest_room rooms)

-- what the entry of a firing of any rule of the program needs at most
abbrev pub room_of : Program → Room
room_of program = largest_room (map (room_of_rule (widest program)) program.rules)

-- whatever a firing of a rule of the program does, and whatever tags it has and gives, its entry fits in this room; the
-- elements have the sizes of their classes, and there is a tag for each positive condition element
abbrev pub EntriesFitInRoomOfProgram : Type 0
EntriesFitInRoomOfProgram = (program : Program) (number : ℕ) (rule : Rule) (elements : List Element) (tags : List ℕ) (next : ℕ) (done : Effect)
    → slice_get program.rules number ≡ Some rule → AllByRecursion (HasSize (sizes_of program.classes)) elements
    → length tags ≡ rule.positives → effect rule elements ≡ Ok done
    → FitsIn (room_for tags (removed_tags done.changes) (born next done.changes) done.pieces) (room_of program)
