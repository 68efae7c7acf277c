-- Lawful cores: those whose state is the run of their journal from their base, and whose claims could each fire.
use Rattle.std.specs.Prelude.{◌≡◌, ◌<◌, ◌≤◌, ◌^◌, List, [], ◌∷◌, false, Option, None, Some, length}
use Rattle.std.specs.List.{AllByRecursion}
use Rattle.rule_base.specs.declared.program.Program.{Program}
use Rattle.rule_base.specs.Sound.{IsSound}
use Rattle.rule_base.specs.Memory.{elements_at}
use Rattle.rule_base.specs.State.{State, choices_of, count, same_choice, start}
use Rattle.rule_base.specs.Run.{run}
use Rattle.rule_base.specs.Base.{IsLawfulBase}
use Rattle.rule_base.specs.Ending.{IsBudget, IsFault}
use Rattle.interference.specs.Footprint.{Clash, footprint}
use Rattle.interference.specs.PhantomLaw.{IsReady}
use Rattle.standing_claims.specs.declared.claim.Claim.{Claim}
use Rattle.firing_core.specs.declared.claims.FaultSeen.{FaultSeen}
use Rattle.firing_core.specs.CoreState.{CoreState}

-- the claim's choice is in the conflict set and unfired, and has the elements of the claim
pub record IsHeld (program : Program) (s : State) (claim : Claim) : Type 0 where
  pub ready : IsReady program s claim.candidate.choice
  pub elements : elements_at s.memory claim.candidate.choice.tags ≡ claim.candidate.elements

-- each of the list and each later one are so related
abbrev pub EachPair : {X : Type 0} → (X → X → Type 0) → List X → Type 0
EachPair R [] = Unit {0}
EachPair R (x ∷ xs) = AllByRecursion (R x) xs × EachPair R xs

-- two claims that could stand side by side, the second with the greater number: their choices differ and their footprints don't clash
pub record GoTogether (program : Program) (one later : Claim) : Type 0 where
  pub in_order : one.number < later.number
  pub differ : same_choice one.candidate.choice later.candidate.choice ≡ false
  pub clear : Clash (footprint program one.candidate) (footprint program later.candidate) → ⊥

-- the claims that stand could each fire, and none is in another's way
pub record AreLawfulClaims (k : CoreState) : Type 0 where
  pub held : AllByRecursion (IsHeld k.program k.state) k.claims
  -- numbers are given from 1 on
  pub numbered : AllByRecursion (λ (claim : Claim). (1 ≤ claim.number) × (claim.number ≤ k.given)) k.claims
  pub together : EachPair (GoTogether k.program) k.claims
  pub few_claims : length k.claims ≤ 4095
  pub few_given : k.given < 2 ^ 64

-- a fault that was seen is an ending of the state
abbrev pub IsEndingFault : CoreState → Option FaultSeen → Type 0
IsEndingFault k None = Unit {0}
IsEndingFault k (Some seen) = IsFault k.program k.budget k.state seen.choice seen.action seen.cause

-- what every core is
pub record IsLawful (k : CoreState) : Type 0 where
  pub sound : IsSound k.program
  pub began : IsLawfulBase k.program k.base
  -- the state is where the journal's choices lead from the base
  pub ran : run k.program (start k.base) (choices_of k.state.entries) ≡ Some k.state
  pub within : count k.state ≤ k.budget
  pub few : IsBudget k.budget
  pub claims : AreLawfulClaims k
  pub fault : IsEndingFault k k.fault
