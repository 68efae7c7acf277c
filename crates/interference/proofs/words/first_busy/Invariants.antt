-- What is left of the footprint has the first demand without room.
use Rattle.std.proofs.Common.{◌≡◌, drop, get_or}
use Rattle.interference.specs.Words.{first_busy}
use Rattle.interference.proofs.words.first_busy.Given as goal

abbrev pub invariant-loop-lock : goal.invariant-loop-lock
invariant-loop-lock l = first_busy (λ lock. get_or l.words lock 0) l.footprint ≡ first_busy (λ lock. get_or l.words lock 0) (drop l.lock-index l.footprint)
