-- the journal, its entries and what it has room for
pub mod Entries
pub mod EntryViews
pub mod Room
-- laws of the entries of firings, and the room that they need
pub mod Commits
pub mod ProgramRoom
-- its text
pub mod JournalText
-- how its arrays keep it
pub mod Lists
pub mod Newborns
pub mod Firings
pub mod Flat
-- the text that is laid out so far
pub mod Page
