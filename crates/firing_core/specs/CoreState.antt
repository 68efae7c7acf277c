-- What contracts see of a core.
use Rattle.std.specs.Prelude.{◌≡◌, ℕ, List, [], ◌∷◌, Option, drop, is_some, take, ◌==◌}
use Rattle.rule_base.specs.declared.program.Program.{Program}
use Rattle.rule_base.specs.declared.base.Base.{Base}
use Rattle.rule_base.specs.declared.entry.Entry.{Entry}
use Rattle.rule_base.specs.Chains.{only_if, first_answer}
use Rattle.rule_base.specs.State.{State, count}
use Rattle.standing_claims.specs.declared.claim.Claim.{Claim}
use Rattle.firing_core.specs.declared.claims.FaultSeen.{FaultSeen}
use Rattle.firing_core.specs.declared.claims.How.{How}
use Rattle.firing_core.specs.declared.claims.How.TheVariants as how

-- the program, the base that the run began from, how many firings it may have, the machine's state, the claims that stand, in the order of
-- their numbers, how many were given a number since all were last dropped, and the fault of a firing, where there was one
pub record CoreState : Type 0 where
  pub program : Program
  pub base : Base
  pub budget : ℕ
  pub state : State
  pub claims : List Claim
  pub given : ℕ
  pub fault : Option FaultSeen

-- the core runs this program, from this base, with this budget
pub record IsRunOf (program : Program) (base : Base) (budget : ℕ) (k : CoreState) : Type 0 where
  pub of_program : k.program ≡ program
  pub from_base : k.base ≡ base
  pub with_budget : k.budget ≡ budget

-- the second core is of the same run as the first
abbrev pub IsSameRun : CoreState → CoreState → Type 0
IsSameRun old new = IsRunOf old.program old.base old.budget new

-- how the core has ended, if it has: by a halt, else by its budget, else by a fault
abbrev pub ended : CoreState → Option How
ended k = first_answer (λ o. o) (only_if k.state.halted how.Halted ∷ only_if (count k.state == k.budget) how.Budget ∷ only_if (is_some k.fault) how.Fault ∷ [])

-- so many entries of its journal, from a place on
abbrev pub looked : CoreState → ℕ → ℕ → List Entry
looked k position most = take most (drop position k.state.entries)
