-- What contracts see of a grant.
use Rattle.std.specs.Prelude.{ℕ, ◌<◌, IsSome, length}
use Rattle.rule_base.specs.declared.instantiation.Candidate.{Candidate}
use Rattle.rule_base.specs.declared.program.Program.{Program}
use Rattle.rule_base.specs.ElementMatch.{bindings_with}
use Rattle.rule_base.specs.Sound.{IsSound}
use Rattle.rhs_actions.specs.Outcomes.{rule_at}

-- the program of the core that granted a claim, the claim's number, and the candidate that it was made for
pub record Granted : Type 0 where
  pub program : Program
  pub number : ℕ
  pub candidate : Candidate

-- its rule may fire with its elements: there is the rule, and its positive condition elements accept them
pub record MayFireAway (grant : Granted) : Type 0 where
  pub sound : IsSound grant.program
  pub there : grant.candidate.choice.rule < length grant.program.rules
  pub accepted : IsSome (bindings_with (rule_at grant.program grant.candidate.choice.rule) grant.candidate.elements)
