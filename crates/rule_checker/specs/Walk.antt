-- How rules are asked one after another, up to the first that is violated.
use Rattle.std.specs.Prelude.{List, [], ◌∷◌, Bool, true, false, Option, Some, None, Result, Ok, Err}
use Rattle.rule_base.specs.Chains.{◌>>=◌}
use Rattle.rule_checker.specs.declared.refusal.CheckKind.{CheckKind}

-- a violation of this kind where the test holds
abbrev pub refused_if : Bool → CheckKind → Result (Unit {0}) CheckKind
refused_if true kind = Err kind
refused_if false kind = Ok tt

-- what is found, or else a violation of this kind
abbrev pub found_or : {A : Type 0} → Option A → CheckKind → Result A CheckKind
found_or (Some a) kind = Ok a
found_or None kind = Err kind

-- what a state becomes by each element in turn, or the first violation
abbrev pub after_each : {S A E : Type 0} → (S → A → Result S E) → S → List A → Result S E
after_each step state [] = Ok state
after_each step state (a ∷ rest) = step state a >>= λ next. after_each step next rest
