-- The opening memory that the bytes of a memory file give, or what is wrong with them.
use Rattle.std.specs.Prelude.{◌≡◌, ◌⊎◌, ℕ, List, Ok}
use Rattle.rule_base.specs.Memory.{Memory}
use Rattle.ops_text.specs.Names.{Names}
use Rattle.ops_reader.specs.declared.form.Form.{Form}
use Rattle.ops_tokens.specs.Tokens.{tokens_of}
use Rattle.ops_reader.specs.Grammar.{IsText}
use Rattle.rule_checker.specs.Opening.{opening_list}
use Rattle.ops_command.specs.declared.status.FileKind.TheVariants as file
use Rattle.ops_command.specs.Account.{Account}
use Rattle.ops_command.specs.FaultyText.{IsSyntaxError, IsCheckError}
use Rattle.ops_command.specs.ProgramText.{NamedProgram}

-- an opening memory, with the names that the text of the memory file leaves
pub record NamedOpening : Type 0 where
  pub elements : Memory
  pub names : Names

-- with the names of the program, the bytes are the text of forms that make this opening memory with it
pub record Opens (named : NamedProgram) (bytes : List ℕ) (opening : NamedOpening) : Type 0 where
  pub forms : List Form
  pub text : IsText named.names forms (tokens_of bytes) opening.names
  pub makes : opening_list named.program forms ≡ Ok opening.elements

-- the bytes give no opening memory of the program, and why
abbrev pub IsFaultyMemory : NamedProgram → List ℕ → Account → Type 0
IsFaultyMemory named bytes account =
    IsSyntaxError named.names bytes file.Memory account ⊎ IsCheckError (opening_list named.program) named.names bytes file.Memory account
