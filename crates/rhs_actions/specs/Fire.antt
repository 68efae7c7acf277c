-- What a call that fires a rule answers.
use Rattle.std.specs.Prelude.{◌≡◌, ℕ, List}
use Rattle.rule_base.specs.declared.element.Element.{Element}
use Rattle.rule_base.specs.declared.program.Program.{Program}
use Rattle.rhs_actions.specs.declared.refusal.FireRefusal.{FireRefusal}
use Rattle.rhs_actions.specs.declared.refusal.FireRefusal.TheVariants as fire
use Rattle.rhs_actions.specs.Outcomes.{Fired, Faulted, IsEffect, IsFirstFailing}

-- the effect of the program's rule with this number and the elements
pub record IsFiringOf (program : Program) (rule : ℕ) (elements : List Element) (fired : Fired) : Type 0 where
  pub its_program : fired.program ≡ program
  pub its_rule : fired.rule ≡ rule
  pub its_elements : fired.elements ≡ elements
  pub is : IsEffect fired

-- the first failing action of the program's rule with this number and the elements
pub record IsFailureOf (program : Program) (rule : ℕ) (elements : List Element) (faulted : Faulted) : Type 0 where
  pub its_program : faulted.program ≡ program
  pub its_rule : faulted.rule ≡ rule
  pub its_elements : faulted.elements ≡ elements
  pub is : IsFirstFailing faulted

-- a refusal tells the first failing action, or that memory is wanting
abbrev pub IsRefusalOf : Program → ℕ → List Element → FireRefusal → Type 0
IsRefusalOf program rule elements (fire.Failed faulted) = IsFailureOf program rule elements faulted
IsRefusalOf program rule elements fire.OutOfMemory = Unit {0}
