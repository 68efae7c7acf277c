-- With the rooms of the rules that are left, it's the largest.
use Rattle.std.proofs.Common.{◌≡◌, drop, map}
use Rattle.commit_journal.specs.Room.{larger_room}
use Rattle.commit_journal.specs.ProgramRoom.{largest_room, room_of_rule}
use Rattle.commit_journal.proofs.program_room.room_of.Given as goal

abbrev pub invariant-loop-rule : goal.invariant-loop-rule
invariant-loop-rule l = larger_room l.room (largest_room (map (room_of_rule l.width) (drop l.rule-index l.rules))) ≡ largest_room (map (room_of_rule l.width) l.rules)
