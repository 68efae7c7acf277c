-- How a file is read: its bytes, or why there are none.
use Rattle.std.specs.Prelude.{◌≡◌, ◌⊎◌, ℕ, ◌<◌, ◌≤◌, List, Option, length}
use Rattle.std.specs.Option.{ForSome}
use Rattle.ops_text.specs.Faults.{Rose}
use Rattle.ops_command.specs.declared.status.FileKind.{FileKind}
use Rattle.ops_command.specs.declared.status.Status.{Status}
use Rattle.ops_command.specs.declared.status.Status.TheVariants as status
use Rattle.ops_command.specs.Call.{Files}
use Rattle.ops_command.specs.Account.{Account, refusal}

-- how many bytes a program file or a memory file may have
abbrev pub most_bytes : ℕ
most_bytes = 4194304

-- bytes that were read: those of the file with this name, as far as it is told, and not too many
pub record AreBytesOf (told : List ℕ → Option (List ℕ)) (name bytes : List ℕ) : Type 0 where
  pub as_told : ForSome (told name) (λ file. bytes ≡ file)
  pub short : length bytes ≤ most_bytes

-- bytes were read of the file with this name, and this holds of them
pub record WereRead (told : List ℕ → Option (List ℕ)) (name : List ℕ) (P : List ℕ → Type 0) : Type 0 where
  pub bytes : List ℕ
  pub are : AreBytesOf told name bytes
  pub holds : P bytes

-- the file can't be read: a fault was counted at just this name
pub record IsReadFault (files : Files) (name : List ℕ) (kind : FileKind) (account : Account) : Type 0 where
  pub fault : Rose (files.faults name) (files.faults_after name)
  pub said : account ≡ refusal (status.ReadFault kind)

-- the file is too long: where it is told, it has more bytes than it may have
pub record IsTooLong (files : Files) (name : List ℕ) (kind : FileKind) (account : Account) : Type 0 where
  pub long : ForSome (files.told name) (λ file. most_bytes < length file)
  pub said : account ≡ refusal (status.TooLong kind)

-- the status tells that a file can't be read
abbrev pub TellsReadFault : Status → Type 0
TellsReadFault said = (kind : FileKind) × (said ≡ status.ReadFault kind)

-- under this status no fault of reading is hidden: it tells of one, or the counts of faults are as before
abbrev pub HidesNoReadFault : (List ℕ → ℕ) → (List ℕ → ℕ) → Status → Type 0
HidesNoReadFault before after said = TellsReadFault said ⊎ (after ≡ before)

-- there are no bytes to go on with
abbrev pub IsUnread : Files → List ℕ → FileKind → Account → Type 0
IsUnread files name kind account = IsReadFault files name kind account ⊎ IsTooLong files name kind account
