-- What a refusal says beside what is defined.
use Rattle.std.specs.Prelude.{◌≡◌, ℕ, Result, Err}
use Rattle.rule_checker.specs.declared.refusal.CheckKind.{CheckKind}
use Rattle.rule_checker.specs.declared.refusal.Refusal.{Refusal}
use Rattle.rule_checker.specs.declared.refusal.Refusal.TheVariants.{Violated, OutOfMemory}
use Rattle.rule_checker.specs.declared.refusal.CheckRefusal.{CheckRefusal}
use Rattle.rule_checker.specs.declared.refusal.CheckRefusal.TheVariants as check
use Rattle.rule_checker.specs.Forms.{Violation}

-- a refusal of a part of a form tells its first violation, or that memory is wanting
pub record Tells {A : Type 0} (defined : Result A CheckKind) (refusal : Refusal) : Type 0 where
  pub violated : (kind : CheckKind) → refusal ≡ Violated kind → defined ≡ Err kind

-- a refusal of forms tells their first violation, or that memory is wanting
pub record TellsForm {A : Type 0} (defined : Result A Violation) (refusal : CheckRefusal) : Type 0 where
  pub violated : (form : ℕ) (kind : CheckKind) → refusal ≡ check.Check form kind → defined ≡ Err (record { form = form; kind = kind })

-- the refusal of the form with this number
abbrev pub refusal_at : ℕ → Refusal → CheckRefusal
refusal_at form (Violated kind) = check.Check form kind
refusal_at form OutOfMemory = check.OutOfMemory
