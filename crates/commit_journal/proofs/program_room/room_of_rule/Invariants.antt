-- With what the actions that are left add, it's all.
use Rattle.std.proofs.Common.{◌≡◌, drop}
use Rattle.commit_journal.specs.Room.{room_plus}
use Rattle.commit_journal.specs.ProgramRoom.{room_of_rule}
use Rattle.commit_journal.proofs.ProgramRoomLemmas.{room_of_actions}
use Rattle.commit_journal.proofs.program_room.room_of_rule.Given as goal

abbrev pub invariant-loop-action : goal.invariant-loop-action
invariant-loop-action l = room_plus l.room (room_of_actions l.width (drop l.action-index l.actions)) ≡ room_of_rule l.width l.rule
