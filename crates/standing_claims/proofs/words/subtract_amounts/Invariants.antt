-- What is left of the footprint is still to be taken away.
use Rattle.std.proofs.Common.{◌≡◌, ◌+◌, ℕ, drop, get_or, length}
use Rattle.standing_claims.specs.Amounts.{amounts}
use Rattle.standing_claims.proofs.words.subtract_amounts.Given as goal

abbrev pub invariant-loop-lock : goal.invariant-loop-lock
invariant-loop-lock l =
    record {
      words : (lock : ℕ) → get_or l.words lock 0 + amounts l.footprint lock ≡ get_or l.initial.words lock 0 + amounts (drop l.lock-index l.footprint) lock;
      count : length l.words ≡ length l.initial.words;
    }
