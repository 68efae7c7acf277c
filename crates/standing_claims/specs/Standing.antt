-- What contracts see of the claims that stand.
use Rattle.std.specs.Prelude.{◌≡◌, ℕ, ◌+◌, ◌-◌, ◌<◌, ◌≤◌, ◌^◌, List, Bool, ◌||◌, not, Option, filter, find, length, map, option_map, ◌==◌}
use Rattle.std.specs.List.{AllByRecursion, zip}
use Rattle.rule_base.specs.declared.lock.Mode.{Mode}
use Rattle.rule_base.specs.declared.instantiation.Choice.{Choice}
use Rattle.rule_base.specs.Memory.{Rises}
use Rattle.rule_base.specs.State.{same_choice}
use Rattle.interference.specs.Locks.{lock_count}
use Rattle.standing_claims.specs.declared.claim.Claim.{Claim}
use Rattle.standing_claims.specs.Amounts.{AreWordsOf, IsFootprint}

-- the claims that stand, in the order of their numbers, the footprint of each, in the same order, how many were given a number since all
-- were last dropped, and how many more can be added without memory
pub record Standing : Type 0 where
  pub claims : List Claim
  pub footprints : List (List (ℕ × Mode))
  pub given : ℕ
  pub spare : ℕ

-- the numbers of the claims, in order
abbrev pub numbers_of : List Claim → List ℕ
numbers_of claims = map (λ (claim : Claim). claim.number) claims

-- the claim with this number
abbrev pub claim_numbered : List Claim → ℕ → Option Claim
claim_numbered claims number = find (λ (claim : Claim). claim.number == number) claims

-- the first claim of this choice
abbrev pub claim_of_choice : List Claim → Choice → Option Claim
claim_of_choice claims choice = find (λ (claim : Claim). same_choice claim.candidate.choice choice) claims

-- and its number
abbrev pub number_of_choice : List Claim → Choice → Option ℕ
number_of_choice claims choice = option_map (λ (claim : Claim). claim.number) (claim_of_choice claims choice)

-- whether no further claim has room, after so many numbers and beside so many claims: there is no further number, or as many
-- stand as a word can count
abbrev pub is_full : ℕ → ℕ → Bool
is_full given standing = (given == 2 ^ 64 - 1) || (standing == 4095)

-- the claims without the one with this number
abbrev pub claims_without : Standing → ℕ → List Claim
claims_without s number = filter (λ (claim : Claim). not (claim.number == number)) s.claims

-- and their footprints
abbrev pub footprints_without : Standing → ℕ → List (List (ℕ × Mode))
footprints_without s number =
    map (λ (held : Claim × List (ℕ × Mode)). held.1)
    (filter (λ (held : Claim × List (ℕ × Mode)). not (held.0.number == number)) (zip s.claims s.footprints))

-- what holds of the claims that stand and the words of all locks
pub record IsKept (s : Standing) (words : List ℕ) : Type 0 where
  -- so few stand that no word overflows
  pub few : length s.claims ≤ 4095
  pub rising : Rises (numbers_of s.claims)
  pub numbered : AllByRecursion (λ n. n ≤ s.given) (numbers_of s.claims)
  pub taken : AllByRecursion IsFootprint s.footprints
  pub summed : AreWordsOf s.footprints words
  -- there is a word for each lock, or none at all before there was room for a first claim
  pub laid : 0 < length words → length words ≡ lock_count
  pub ready : 0 < length s.claims + s.spare → 0 < length words
