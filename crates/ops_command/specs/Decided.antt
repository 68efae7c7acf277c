-- When each answer comes: for a call in which no count of faults rose, the words and the files decide. That this is so is a law of
-- the promise.
use Rattle.std.specs.Prelude.{◌≡◌, ℕ, ◌<◌, ◌≤◌, ◌⊎◌, List, Some, Result, Ok, Err, length}
use Rattle.ops_text.specs.Names.{Names}
use Rattle.ops_text.specs.Faults.{Rose}
use Rattle.ops_reader.specs.declared.form.Form.{Form}
use Rattle.ops_reader.specs.declared.refusal.SyntaxKind.{SyntaxKind}
use Rattle.ops_tokens.specs.Tokens.{tokens_of}
use Rattle.ops_reader.specs.Grammar.{IsText}
use Rattle.ops_reader.specs.Refusal.{IsRefusedAt}
use Rattle.rule_checker.specs.Forms.{Violation}
use Rattle.rule_checker.specs.Checked.{checked}
use Rattle.rule_checker.specs.Opening.{opening_list}
use Rattle.ops_command.specs.declared.status.UsageKind.{UsageKind}
use Rattle.ops_command.specs.declared.status.FileKind.{FileKind}
use Rattle.ops_command.specs.declared.status.FileKind.TheVariants as file
use Rattle.ops_command.specs.declared.status.Status.{Status}
use Rattle.ops_command.specs.declared.status.Status.TheVariants as status
use Rattle.ops_command.specs.Words.{Asked, asked_by}
use Rattle.ops_command.specs.Call.{Call}
use Rattle.ops_command.specs.FileBytes.{most_bytes}
use Rattle.ops_command.specs.ProgramText.{first_names, NamedProgram, Defines}
use Rattle.ops_command.specs.MemoryText.{NamedOpening}
use Rattle.ops_command.specs.MemoryFile.{GivesOpening}
use Rattle.ops_command.specs.Ran.{IsOfEnding, start_of}

-- no count of faults rose in the call
pub record HasNoFault (call : Call) : Type 0 where
  pub reading : (name : List ℕ) → ¬ Rose (call.files.faults name) (call.files.faults_after name)
  pub writing : ¬ Rose call.output.faults call.output.faults_after

-- this status, unless memory ran out
abbrev pub IsUnlessOutOfMemory : Status → Status → Type 0
IsUnlessOutOfMemory expected said = (said ≡ expected) ⊎ (said ≡ status.OutOfMemory)

-- the words ask for this, and the program file is told to have these bytes
pub record AsksToRun (call : Call) (asked : Asked) (bytes : List ℕ) : Type 0 where
  pub by_words : asked_by call.words ≡ Ok asked
  pub told : call.files.told asked.program ≡ Some bytes

-- and they define this program
pub record AsksToRunProgram (call : Call) (asked : Asked) (named : NamedProgram) : Type 0 where
  pub bytes : List ℕ
  pub asks : AsksToRun call asked bytes
  pub short : length bytes ≤ most_bytes
  pub defines : Defines bytes named

-- and a memory file is asked for, which is told to have these bytes
pub record AsksToLoad (call : Call) (asked : Asked) (named : NamedProgram) (bytes : List ℕ) : Type 0 where
  pub asks : AsksToRunProgram call asked named
  pub name : List ℕ
  pub by_words : asked.memory ≡ Some name
  pub told : call.files.told name ≡ Some bytes

-- or the memory file that is asked for, if any, is told, and the opening memory is this
pub record AsksToRunFrom (call : Call) (asked : Asked) (named : NamedProgram) (opening : NamedOpening) : Type 0 where
  pub asks : AsksToRunProgram call asked named
  pub told : (name : List ℕ) → asked.memory ≡ Some name → (bytes : List ℕ) × (call.files.told name ≡ Some bytes)
  pub opens : GivesOpening call.files.told asked.memory named opening

-- the status is the one that faults of this text decide, where there are any
pub record DecidesText {A : Type 0} (defined : List Form → Result A Violation) (names : Names) (bytes : List ℕ) (kind : FileKind) (said : Status) : Type 0 where
  pub syntax : (at : ℕ) (why : SyntaxKind) → IsRefusedAt names bytes at why → IsUnlessOutOfMemory (status.Syntax kind at why) said
  pub check : (forms : List Form) (after : Names) (violation : Violation) → IsText names forms (tokens_of bytes) after → defined forms ≡ Err violation
      → IsUnlessOutOfMemory (status.Check kind violation.form violation.kind) said

-- the status is the one that the words and the files decide
pub record IsDecided (call : Call) (said : Status) : Type 0 where
  pub usage : (kind : UsageKind) → asked_by call.words ≡ Err kind → IsUnlessOutOfMemory (status.Usage kind) said
  pub program_too_long : (asked : Asked) (bytes : List ℕ) → AsksToRun call asked bytes → most_bytes < length bytes
      → IsUnlessOutOfMemory (status.TooLong file.Program) said
  pub program_text : (asked : Asked) (bytes : List ℕ) → AsksToRun call asked bytes → length bytes ≤ most_bytes
      → DecidesText checked first_names bytes file.Program said
  pub memory_too_long : (asked : Asked) (named : NamedProgram) (bytes : List ℕ) → AsksToLoad call asked named bytes
      → most_bytes < length bytes → IsUnlessOutOfMemory (status.TooLong file.Memory) said
  pub memory_text : (asked : Asked) (named : NamedProgram) (bytes : List ℕ) → AsksToLoad call asked named bytes
      → length bytes ≤ most_bytes → DecidesText (opening_list named.program) named.names bytes file.Memory said
  -- a program with its opening memory runs to an ending
  pub runs : (asked : Asked) (named : NamedProgram) (opening : NamedOpening) → AsksToRunFrom call asked named opening
      → IsOfEnding (start_of asked.budget named opening) said ⊎ (said ≡ status.OutOfMemory)
