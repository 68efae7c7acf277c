-- Claims with the locks that they have taken.
use Rattle.std.specs.Prelude.{ℕ, List, map}
use Rattle.rule_base.specs.declared.lock.Mode.{Mode}
use Rattle.standing_claims.specs.declared.claim.Claim.{Claim}
use Rattle.standing_claims.specs.declared.held.Held.{Held}
use Rattle.standing_claims.specs.Standing.{Standing}

-- the claims, in order
abbrev pub claims_in : List Held → List Claim
claims_in held = map (λ (h : Held). h.claim) held

-- and their footprints
abbrev pub footprints_in : List Held → List (List (ℕ × Mode))
footprints_in held = map (λ (h : Held). h.footprint) held

-- what contracts see where these claims stand, so many were given, and there is room for so many more
abbrev pub standing_with : List Held → ℕ → ℕ → Standing
standing_with held given spare = record { claims = claims_in held; footprints = footprints_in held; given = given; spare = spare }
