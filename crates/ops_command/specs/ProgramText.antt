-- The program that the bytes of a file define, or what is wrong with them.
use Rattle.std.specs.Prelude.{◌≡◌, ◌⊎◌, ℕ, List, [], ◌∷◌, codes, Ok}
use Rattle.rule_base.specs.declared.program.Program.{Program}
use Rattle.ops_text.specs.Names.{Names}
use Rattle.ops_reader.specs.declared.form.Form.{Form}
use Rattle.ops_tokens.specs.Tokens.{tokens_of}
use Rattle.ops_reader.specs.Grammar.{IsText}
use Rattle.rule_checker.specs.Checked.{checked}
use Rattle.ops_command.specs.declared.status.FileKind.TheVariants as file
use Rattle.ops_command.specs.Account.{Account}
use Rattle.ops_command.specs.FaultyText.{IsSyntaxError, IsCheckError}

-- the names that a program is read with: `nil` alone
abbrev pub first_names : Names
first_names = codes "nil" ∷ []

-- a program, with the names that its text leaves
pub record NamedProgram : Type 0 where
  pub program : Program
  pub names : Names

-- the bytes are the text of forms that declare this program, and leave these names
pub record Defines (bytes : List ℕ) (named : NamedProgram) : Type 0 where
  pub forms : List Form
  pub text : IsText first_names forms (tokens_of bytes) named.names
  pub declares : checked forms ≡ Ok named.program

-- the bytes define no program, and why
abbrev pub IsFaultyProgram : List ℕ → Account → Type 0
IsFaultyProgram bytes account =
    IsSyntaxError first_names bytes file.Program account ⊎ IsCheckError checked first_names bytes file.Program account
