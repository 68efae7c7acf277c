-- The law is the lemma on effects.
use Rattle.commit_journal.proofs.ProgramRoomLemmas.{fits}
use Rattle.commit_journal.proofs.laws.entries_fit_in_room_of_program.Goals as goal

pub returns : goal.returns
returns c = fits
