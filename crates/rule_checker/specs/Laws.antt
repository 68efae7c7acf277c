-- What holds of the definitions.
use Rattle.std.specs.Prelude.{◌≡◌, ◌↔◌, ◌+◌, Bool, true, false, List, ◌∷◌, ◌++◌, Ok, Err, length}
use Rattle.rule_base.specs.declared.program.Program.{Program}
use Rattle.rule_base.specs.Sound.{IsSound}
use Rattle.ops_reader.specs.declared.form.Form.{Form}
use Rattle.ops_reader.specs.Shape.{AreForms}
use Rattle.rule_checker.specs.declared.refusal.CheckKind.{CheckKind}
use Rattle.rule_checker.specs.declared.refusal.CheckKind.TheVariants.{UnknownClass, UnknownAttribute, Twice, FirstNegated, Unbound, BadDesignator, TooMany, NotInitial}
use Rattle.rule_checker.specs.Forms.{Violation}
use Rattle.rule_checker.specs.Checked.{with_form, checked}
use Rattle.rule_checker.specs.Declares.{DeclaresAll}
use Rattle.rule_checker.specs.Opening.{opening_list}

-- the program of the forms of a text is sound
abbrev pub CheckedAreSound : Type 0
CheckedAreSound = (forms : List Form) (program : Program) → AreForms forms → checked forms ≡ Ok program → IsSound program

-- a checked program has what its forms declare
abbrev pub CheckedDeclareAll : Type 0
CheckedDeclareAll = (forms : List Form) (program : Program) → checked forms ≡ Ok program → DeclaresAll forms program

-- the violation is that of one of the forms: those before it are the forms of a program, to which this one can't be added
pub record IsFirstViolation (forms : List Form) (violation : Violation) : Type 0 where
  pub front : List Form
  pub violating : Form
  pub behind : List Form
  pub parts : forms ≡ front ++ violating ∷ behind
  pub number : violation.form ≡ length front + 1
  pub program : Program
  pub passed : checked front ≡ Ok program
  pub refused : with_form program violating ≡ Err violation.kind

abbrev pub ViolationsAreFirst : Type 0
ViolationsAreFirst = (forms : List Form) (violation : Violation) → checked forms ≡ Err violation ↔ IsFirstViolation forms violation

-- forms behind the first violation don't matter
abbrev pub FrontDecides : Type 0
FrontDecides = (forms more : List Form) (violation : Violation) → checked forms ≡ Err violation → checked (forms ++ more) ≡ Err violation

-- the kinds of which violations of a program are: all but that of a memory file
abbrev pub is_of_a_program : CheckKind → Bool
is_of_a_program UnknownClass = true
is_of_a_program UnknownAttribute = true
is_of_a_program Twice = true
is_of_a_program FirstNegated = true
is_of_a_program Unbound = true
is_of_a_program BadDesignator = true
is_of_a_program TooMany = true
is_of_a_program NotInitial = false

abbrev pub ProgramKinds : Type 0
ProgramKinds = (forms : List Form) (violation : Violation) → checked forms ≡ Err violation → is_of_a_program violation.kind ≡ true

-- the kinds of which violations of a memory file are
abbrev pub is_of_a_memory_file : CheckKind → Bool
is_of_a_memory_file UnknownClass = true
is_of_a_memory_file UnknownAttribute = true
is_of_a_memory_file Twice = false
is_of_a_memory_file FirstNegated = false
is_of_a_memory_file Unbound = false
is_of_a_memory_file BadDesignator = false
is_of_a_memory_file TooMany = false
is_of_a_memory_file NotInitial = true

abbrev pub MemoryFileKinds : Type 0
MemoryFileKinds = (program : Program) (memory : List Form) (violation : Violation) → opening_list program memory ≡ Err violation
    → is_of_a_memory_file violation.kind ≡ true
