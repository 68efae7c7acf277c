-- What a program file comes to: a program, or the reason why there is none.
use Rattle.std.specs.Prelude.{◌⊎◌, ℕ, List, Option}
use Rattle.ops_command.specs.declared.status.FileKind.TheVariants as file
use Rattle.ops_command.specs.Call.{Files}
use Rattle.ops_command.specs.Account.{Account}
use Rattle.ops_command.specs.FileBytes.{WereRead, IsUnread}
use Rattle.ops_command.specs.ProgramText.{NamedProgram, Defines, IsFaultyProgram}

-- bytes of the file with this name were read, and they define this program
abbrev pub GivesProgram : (List ℕ → Option (List ℕ)) → List ℕ → NamedProgram → Type 0
GivesProgram told name named = WereRead told name (λ bytes. Defines bytes named)

-- the file with this name gives no program, and why
abbrev pub IsRefusedProgram : Files → List ℕ → Account → Type 0
IsRefusedProgram files name account = IsUnread files name file.Program account ⊎ WereRead files.told name (λ bytes. IsFaultyProgram bytes account)
