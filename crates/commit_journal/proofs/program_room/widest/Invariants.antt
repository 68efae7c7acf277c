-- With the widths of the classes that are left, it's the greatest.
use Rattle.std.proofs.Common.{◌≡◌, drop, max}
use Rattle.rule_base.specs.Sound.{sizes_of}
use Rattle.commit_journal.specs.ProgramRoom.{greatest}
use Rattle.commit_journal.proofs.program_room.widest.Given as goal

abbrev pub invariant-loop-class : goal.invariant-loop-class
invariant-loop-class l = max l.width (greatest (sizes_of (drop l.class-index l.classes))) ≡ greatest (sizes_of l.classes)
