-- Forms in their order, up to the first that violates a rule.
use Rattle.std.specs.Prelude.{ℕ, ◌+◌, List, [], ◌∷◌, Result, Ok, Err}
use Rattle.rule_base.specs.Chains.{◌>>=◌}
use Rattle.ops_reader.specs.declared.form.Form.{Form}
use Rattle.rule_checker.specs.declared.refusal.CheckKind.{CheckKind}

-- the first violated rule: its kind, and the number of the form, from 1
pub record Violation : Type 0 where
  pub form : ℕ
  pub kind : CheckKind

-- what is defined of the form with this number
abbrev pub at_form : {A : Type 0} → ℕ → Result A CheckKind → Result A Violation
at_form form (Ok a) = Ok a
at_form form (Err kind) = Err (record { form = form; kind = kind })

-- what a state becomes by each form in turn, the first of which has this number, or the first violation
abbrev pub after_forms : {S : Type 0} → (S → Form → Result S CheckKind) → ℕ → S → List Form → Result S Violation
after_forms step number state [] = Ok state
after_forms step number state (f ∷ forms) = at_form number (step state f) >>= λ next. after_forms step (number + 1) next forms
