-- The entries of a journal, what they have together, and what contracts see of a journal.
use Rattle.std.specs.Prelude.{ℕ, List, ◌++◌, Bool, Option, Some, None, map}
use Rattle.std.specs.List.{filter_map, flat_map}
use Rattle.rule_base.specs.declared.element.Element.{Element}
use Rattle.rule_base.specs.declared.change.Piece.{Piece}
use Rattle.rule_base.specs.declared.change.Tagged.{Tagged}
use Rattle.rule_base.specs.declared.change.Tagged.TheVariants.{Gone, Born}
use Rattle.rule_base.specs.declared.entry.Entry.{Entry}
use Rattle.commit_journal.specs.declared.room.Room.{Room}

-- the entry of a firing: the rule with the tags that it fired on, the tags that it took away, the elements that it
-- made, the pieces that it wrote, and whether it halted
abbrev pub entry_with : ℕ → List ℕ → List ℕ → List Element → List Piece → Bool → Entry
entry_with rule tags gone born pieces halts = record {
  choice = record { rule = rule; tags = tags };
  changes = map Gone gone ++ map Born born;
  pieces = pieces;
  halts = halts;
}

-- the element that came, if one did
abbrev pub born_by : Tagged → Option Element
born_by (Gone tag) = None
born_by (Born element) = Some element

-- the elements that came, in order
abbrev pub born_in : List Entry → List Element
born_in entries = flat_map (λ (e : Entry). filter_map born_by e.changes) entries

-- the pieces of all entries as one list
abbrev pub pieces_of : List Entry → List Piece
pieces_of entries = flat_map (λ (e : Entry). e.pieces) entries

-- a journal: its entries, the tag of the next element to be born, and what there is room for
pub record Recorded : Type 0 where
  pub entries : List Entry
  pub next : ℕ
  pub room : Room
