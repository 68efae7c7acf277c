-- Room: what a journal can take in without memory.
use Rattle.std.specs.Prelude.{ℕ, ◌+◌, ◌-◌, ◌*◌, ◌≤◌, List, length, max}
use Rattle.rule_base.specs.declared.change.Piece.{Piece}
use Rattle.rule_base.specs.Memory.{Memory, value_count}
use Rattle.commit_journal.specs.declared.room.Room.{Room}

-- what an entry with these tags, removed tags, born elements and pieces needs
abbrev pub room_for : List ℕ → List ℕ → Memory → List Piece → Room
room_for tags gone born pieces = record { entries = 1; tags = length tags; gone = length gone; elements = length born; values = value_count born; pieces = length pieces }

-- there is at least this room
pub record FitsIn (need room : Room) : Type 0 where
  pub entries : need.entries ≤ room.entries
  pub tags : need.tags ≤ room.tags
  pub gone : need.gone ≤ room.gone
  pub elements : need.elements ≤ room.elements
  pub values : need.values ≤ room.values
  pub pieces : need.pieces ≤ room.pieces

-- both rooms together
abbrev pub room_plus : Room → Room → Room
room_plus a b = record {
  entries = a.entries + b.entries;
  tags = a.tags + b.tags;
  gone = a.gone + b.gone;
  elements = a.elements + b.elements;
  values = a.values + b.values;
  pieces = a.pieces + b.pieces;
}

-- so many times a room
abbrev pub room_times : ℕ → Room → Room
room_times count room = record {
  entries = count * room.entries;
  tags = count * room.tags;
  gone = count * room.gone;
  elements = count * room.elements;
  values = count * room.values;
  pieces = count * room.pieces;
}

-- the room that is left once so much of it is taken
abbrev pub room_without : Room → Room → Room
room_without room taken = record {
  entries = room.entries - taken.entries;
  tags = room.tags - taken.tags;
  gone = room.gone - taken.gone;
  elements = room.elements - taken.elements;
  values = room.values - taken.values;
  pieces = room.pieces - taken.pieces;
}

-- the room that holds what either holds
abbrev pub larger_room : Room → Room → Room
larger_room a b = record {
  entries = max a.entries b.entries;
  tags = max a.tags b.tags;
  gone = max a.gone b.gone;
  elements = max a.elements b.elements;
  values = max a.values b.values;
  pieces = max a.pieces b.pieces;
}
