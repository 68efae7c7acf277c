-- The variables of a rule, as its text is walked: which names have a number here, and what a new one gets. What a
-- negated condition element binds is known in it alone.
use Rattle.std.specs.Prelude.{ℕ, ◌+◌, [], ◌∷◌, ◌++◌, Bool, true, false, Option, Result}
use Rattle.std.specs.Option.{option_or}
use Rattle.rule_checker.specs.declared.refusal.CheckKind.{CheckKind}
use Rattle.rule_checker.specs.declared.refusal.CheckKind.TheVariants.{Unbound}
use Rattle.rule_checker.specs.declared.scope.Scope.{Scope}
use Rattle.rule_checker.specs.Names.{number_of}
use Rattle.rule_checker.specs.Walk.{found_or}

-- no variables
abbrev pub no_variables : Scope
no_variables = record { bound = []; local = []; vars = 0 }

-- the number of a variable, if it is bound to the left of this place
abbrev pub variable_of : Scope → ℕ → Option ℕ
variable_of scope name = option_or (number_of scope.bound name) (number_of scope.local name)

-- the variable is bound to its left
abbrev pub bound_to_its_left : Scope → ℕ → Result ℕ CheckKind
bound_to_its_left scope name = found_or (variable_of scope name) Unbound

-- the scope with a new variable, whose number is the next; a negated condition element keeps it to itself
abbrev pub with_variable : Bool → Scope → ℕ → Scope
with_variable true scope name = record scope { local = scope.local ++ (name, scope.vars) ∷ []; vars = scope.vars + 1 }
with_variable false scope name = record scope { bound = scope.bound ++ (name, scope.vars) ∷ []; vars = scope.vars + 1 }

-- the scope behind a condition element
abbrev pub behind : Scope → Scope
behind scope = record scope { local = [] }
