-- lists one behind another
pub mod CutLemmas
-- the elements that a run makes
pub mod NumberedLemmas
pub mod BornLemmas
-- the entries of a journal
pub mod BesideLemmas
pub mod EntryLemmas
pub mod RoomLemmas
pub mod PushLemmas
pub mod ProgramRoomLemmas
pub mod CommitLemmas
-- the text of a journal
pub mod JournalTextLemmas
