-- The claims that are left have the first one of the choice.
use Rattle.std.proofs.Common.{◌≡◌, drop}
use Rattle.standing_claims.specs.Held.{claims_in}
use Rattle.standing_claims.specs.Standing.{number_of_choice}
use Rattle.standing_claims.proofs.held.number_of.Given as goal

abbrev pub invariant-loop-one : goal.invariant-loop-one
invariant-loop-one l = number_of_choice (claims_in l.held) l.choice ≡ number_of_choice (claims_in (drop l.one-index l.held)) l.choice
