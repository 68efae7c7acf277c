-- There is the room that the effect needs, whatever the next tag is.
use Rattle.std.proofs.Common.{subst}
use Rattle.commit_journal.specs.declared.room.Room.{Room}
use Rattle.commit_journal.specs.Room.{FitsIn}
use Rattle.engine_tests.proofs.commits.told_entry.Goals as goal

pub commit-requires : goal.commit-requires
commit-requires g c = record { room = subst (λ (room : Room). FitsIn room c.reserve.new.self.room) (c.for_effect.ensures c.reserve.new.self.next) c.in_ok-reserve.ensures.ok }
