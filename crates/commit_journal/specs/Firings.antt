-- How flat arrays keep entries: a record for each firing, and its lists beside it.
use Rattle.std.specs.Prelude.{ℕ, ◌-◌, List, map}
use Rattle.std.specs.List.{zip}
use Rattle.rule_base.specs.declared.element.Element.{Element}
use Rattle.rule_base.specs.declared.change.Piece.{Piece}
use Rattle.rule_base.specs.declared.entry.Entry.{Entry}
use Rattle.commit_journal.specs.declared.firing.Firing.{Firing}
use Rattle.commit_journal.specs.Lists.{cut}
use Rattle.commit_journal.specs.Entries.{entry_with}

-- where the elements that each firing made end
abbrev pub born_ends : List Firing → List ℕ
born_ends firings = map (λ (f : Firing). f.born) firings

-- the firing, with the end of its elements so many places before
abbrev pub firing_before : ℕ → Firing → Firing
firing_before by firing = record firing { born = firing.born - by }

-- a firing with its tags, then its removed tags, its born elements and its pieces
abbrev pub Parts : Type 0
Parts = Firing × (List ℕ × (List ℕ × (List Element × List Piece)))

abbrev pub entry_of : Parts → Entry
entry_of (firing, (tags, (gone, (born, pieces)))) = entry_with firing.rule tags gone born pieces firing.halts

-- the parts of each entry, one beside the other
abbrev pub parts_of : List Firing → List (List ℕ) → List (List ℕ) → List Element → List (List Piece) → List Parts
parts_of firings tags gone born pieces = zip firings (zip tags (zip gone (zip (cut (born_ends firings) born) pieces)))

abbrev pub entries_of : List Firing → List (List ℕ) → List (List ℕ) → List Element → List (List Piece) → List Entry
entries_of firings tags gone born pieces = map entry_of (parts_of firings tags gone born pieces)
