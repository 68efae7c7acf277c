-- Views of a journal's entries: the entry that a view shows.
use Rattle.std.specs.Prelude.{List, drop, take}
use Rattle.rule_base.specs.declared.element.Element.{Element}
use Rattle.rule_base.specs.declared.entry.Entry.{Entry}
use Rattle.commit_journal.specs.declared.entry_view.EntryView.{EntryView}
use Rattle.commit_journal.specs.Entries.{entry_with}

-- the elements that the firing made: so many of all from a place on
abbrev pub born_of : EntryView → List Element
born_of view = take view.count (drop view.from view.newborns.now.elements)

abbrev pub entry_in : EntryView → Entry
entry_in view = entry_with view.rule view.tags.now view.gone.now (born_of view) view.pieces.now view.halts
