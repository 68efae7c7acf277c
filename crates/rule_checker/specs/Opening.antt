-- The opening memory: the elements of the program's makes and then of the memory file's, or the first violated rule.
use Rattle.std.specs.Prelude.{ℕ, ◌+◌, List, [], ◌∷◌, ◌++◌, length, fold, Result, Ok, Err}
use Rattle.rule_base.specs.declared.value.Value.{Value}
use Rattle.rule_base.specs.declared.element.Element.{Element}
use Rattle.rule_base.specs.declared.program.Class.{Class}
use Rattle.rule_base.specs.declared.program.Program.{Program}
use Rattle.rule_base.specs.Chains.{◌>>=◌}
use Rattle.ops_reader.specs.declared.form.Form.{Form}
use Rattle.ops_reader.specs.declared.form.Form.TheVariants as form
use Rattle.rule_checker.specs.declared.refusal.CheckKind.{CheckKind}
use Rattle.rule_checker.specs.declared.refusal.CheckKind.TheVariants.{NotInitial}
use Rattle.rule_checker.specs.Makes.{make_of}
use Rattle.rule_checker.specs.Forms.{Violation, after_forms}

-- every form of a memory file is a make
abbrev pub is_make : List Class → Form → Result (ℕ × List Value) CheckKind
is_make classes (form.Make class sets) = make_of classes class sets
is_make classes (form.Literalize class attrs) = Err NotInitial
is_make classes (form.P name conds actions) = Err NotInitial
is_make classes (form.Strategy mea) = Err NotInitial
is_make classes (form.Watch level) = Err NotInitial

-- the elements with that of one make more, whose tag is the next
abbrev pub with_made : List Element → ℕ × List Value → List Element
with_made elements make = elements ++ record { tag = length elements + 1; class = make.0; values = make.1 } ∷ []

-- the elements with that of one form more
abbrev pub with_initial : List Class → List Element → Form → Result (List Element) CheckKind
with_initial classes elements f = is_make classes f >>= λ make. Ok (with_made elements make)

-- the opening memory of a program with a memory file of these forms
abbrev pub opening_list : Program → List Form → Result (List Element) Violation
opening_list program memory = after_forms (with_initial program.classes) 1 (fold with_made [] program.makes) memory
