-- No claim so far has the number.
use Rattle.std.proofs.Common.{◌≡◌, ◌+◌, ◌==◌, drop}
use Rattle.std.specs.List.{position_or_len}
use Rattle.standing_claims.specs.declared.held.Held.{Held}
use Rattle.standing_claims.proofs.held.place_of.Given as goal

abbrev pub invariant-loop-place : goal.invariant-loop-place
invariant-loop-place l =
    position_or_len (λ (h : Held). h.claim.number == l.number) l.held ≡ l.place + position_or_len (λ (h : Held). h.claim.number == l.number) (drop l.place l.held)
