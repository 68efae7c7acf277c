-- The checked program of forms, or the first violated rule. The forms are taken in order, and each is walked in the order
-- of its text; where two rules are violated at one token, the one whose kind comes first in `CheckKind` counts.
use Rattle.std.specs.Prelude.{ℕ, List, [], ◌∷◌, ◌++◌, Result, Ok}
use Rattle.rule_base.specs.declared.value.Value.{Value}
use Rattle.rule_base.specs.declared.program.Program.{Program}
use Rattle.rule_base.specs.Chains.{◌>>=◌}
use Rattle.ops_reader.specs.declared.form.Form.{Form}
use Rattle.ops_reader.specs.declared.form.Form.TheVariants as form
use Rattle.rule_checker.specs.declared.refusal.CheckKind.{CheckKind}
use Rattle.rule_checker.specs.Forms.{Violation, after_forms}
use Rattle.rule_checker.specs.Classes.{with_class}
use Rattle.rule_checker.specs.Makes.{make_of}
use Rattle.rule_checker.specs.Rules.{with_rule}

-- the program with one more top-level make
abbrev pub with_make : Program → ℕ → List (ℕ × Value) → Result Program CheckKind
with_make p class sets = make_of p.classes class sets >>= λ make. Ok (record p { makes = p.makes ++ make ∷ [] })

-- the program with one more form; `strategy` and `watch` have no effect
abbrev pub with_form : Program → Form → Result Program CheckKind
with_form p (form.Literalize class attrs) = with_class p.classes class attrs >>= λ classes. Ok (record p { classes = classes })
with_form p (form.P name conds actions) = with_rule p.classes p.rules name conds actions >>= λ rules. Ok (record p { rules = rules })
with_form p (form.Make class sets) = with_make p class sets
with_form p (form.Strategy mea) = Ok p
with_form p (form.Watch level) = Ok p

-- the program of no forms
abbrev pub no_program : Program
no_program = record { classes = []; rules = []; makes = [] }

-- the program of these forms
abbrev pub checked : List Form → Result Program Violation
checked forms = after_forms with_form 1 no_program forms
