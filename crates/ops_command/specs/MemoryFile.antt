-- What a memory file comes to: the opening memory of a program, or the reason why there is none.
use Rattle.std.specs.Prelude.{◌≡◌, ◌⊎◌, ℕ, List, [], Option, Some, None, Ok}
use Rattle.rule_checker.specs.Opening.{opening_list}
use Rattle.ops_command.specs.declared.status.FileKind.TheVariants as file
use Rattle.ops_command.specs.Call.{Files}
use Rattle.ops_command.specs.Account.{Account}
use Rattle.ops_command.specs.FileBytes.{WereRead, IsUnread}
use Rattle.ops_command.specs.ProgramText.{NamedProgram}
use Rattle.ops_command.specs.MemoryText.{NamedOpening, Opens, IsFaultyMemory}

-- without a memory file the opening memory is that of the program alone, and no names come
pub record OpensAlone (named : NamedProgram) (opening : NamedOpening) : Type 0 where
  pub makes : opening_list named.program [] ≡ Ok opening.elements
  pub names : opening.names ≡ named.names

-- this is the opening memory of the program: bytes of the memory file that is asked for were read, and they give it
abbrev pub GivesOpening : (List ℕ → Option (List ℕ)) → Option (List ℕ) → NamedProgram → NamedOpening → Type 0
GivesOpening told None named opening = OpensAlone named opening
GivesOpening told (Some name) named opening = WereRead told name (λ bytes. Opens named bytes opening)

-- the memory file that is asked for gives no opening memory of the program, and why
abbrev pub IsRefusedMemory : Files → Option (List ℕ) → NamedProgram → Account → Type 0
IsRefusedMemory files None named account = ⊥
IsRefusedMemory files (Some name) named account =
    IsUnread files name file.Memory account ⊎ WereRead files.told name (λ bytes. IsFaultyMemory named bytes account)
