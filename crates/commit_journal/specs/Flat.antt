-- What holds of a journal's flat arrays.
use Rattle.std.specs.Prelude.{◌≡◌, ℕ, ◌+◌, ◌^◌, ◌≤◌, ◌<◌, List, length}
use Rattle.rule_base.specs.declared.change.Piece.{Piece}
use Rattle.commit_journal.specs.declared.firing.Firing.{Firing}
use Rattle.commit_journal.specs.declared.room.Room.{Room}
use Rattle.commit_journal.specs.Lists.{Kept, RiseTo}
use Rattle.commit_journal.specs.Newborns.{Made}
use Rattle.commit_journal.specs.Firings.{born_ends}

-- each firing has its tags, its removed tags, its born elements and its pieces
pub record AreParallel (firings : List Firing) (tags gone : Kept ℕ) (made : Made) (pieces : Kept Piece) : Type 0 where
  pub with_tags : length tags.lists ≡ length firings
  pub with_gone : length gone.lists ≡ length firings
  pub with_pieces : length pieces.lists ≡ length firings
  pub with_born : RiseTo 0 (born_ends firings) (length made.elements)

-- the arrays have this room, and so have the numbers: tags have 64 bits, and places of born elements 32
pub record HaveRoom (room : Room) (firings : ℕ) (tags gone : Kept ℕ) (made : Made) (pieces : Kept Piece) : Type 0 where
  pub for_entries : room.entries ≤ firings
  pub for_tags : (room.entries ≤ tags.more_lists) × (room.tags ≤ tags.more_items)
  pub for_gone : (room.entries ≤ gone.more_lists) × (room.gone ≤ gone.more_items)
  pub for_pieces : (room.entries ≤ pieces.more_lists) × (room.pieces ≤ pieces.more_items)
  pub for_born : (room.elements ≤ made.more_elements) × (room.values ≤ made.more_values)
  pub of_tags : made.next + room.elements < 2 ^ 64
  pub of_places : length made.elements + room.elements < 2 ^ 32
