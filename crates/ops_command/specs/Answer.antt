-- Every answer of the command and its cause: what a call is to say, and what it does.
use Rattle.std.specs.Prelude.{◌≡◌, ◌⊎◌, ℕ, List, Err}
use Rattle.ops_text.specs.Faults.{Rose}
use Rattle.ops_text.specs.Output.{Extends, ExtendsInPart}
use Rattle.ops_command.specs.declared.status.UsageKind.{UsageKind}
use Rattle.ops_command.specs.declared.status.Status.{Status}
use Rattle.ops_command.specs.declared.status.Status.TheVariants as status
use Rattle.ops_command.specs.declared.status.Report.{Report}
use Rattle.ops_command.specs.Words.{Asked, asked_by, AsksFor}
use Rattle.ops_command.specs.Call.{Files, Call}
use Rattle.ops_command.specs.FileBytes.{HidesNoReadFault}
use Rattle.ops_command.specs.Findings.{findings_of, no_findings}
use Rattle.ops_command.specs.Account.{Account, refusal}
use Rattle.ops_command.specs.ProgramText.{NamedProgram}
use Rattle.ops_command.specs.ProgramFile.{GivesProgram, IsRefusedProgram}
use Rattle.ops_command.specs.MemoryText.{NamedOpening}
use Rattle.ops_command.specs.MemoryFile.{GivesOpening, IsRefusedMemory}
use Rattle.ops_command.specs.Ran.{Ran, start_of}

-- the words are faulty
pub record IsUsage (words : List (List ℕ)) (account : Account) : Type 0 where
  pub kind : UsageKind
  pub faulty : asked_by words ≡ Err kind
  pub said : account ≡ refusal (status.Usage kind)

-- the program has an opening memory, and ran from it
pub record RanFromOpening (files : Files) (asked : Asked) (named : NamedProgram) (account : Account) : Type 0 where
  pub opening : NamedOpening
  pub opens : GivesOpening files.told asked.memory named opening
  pub ran : Ran (start_of asked.budget named opening) account

-- what a program led to: its memory file is refused, or it ran
abbrev pub ProgramLedTo : Files → Asked → NamedProgram → Account → Type 0
ProgramLedTo files asked named account = IsRefusedMemory files asked.memory named account ⊎ RanFromOpening files asked named account

-- the program file gave a program, and this is what that led to
pub record GaveProgram (files : Files) (asked : Asked) (account : Account) : Type 0 where
  pub named : NamedProgram
  pub gives : GivesProgram files.told asked.program named
  pub said : ProgramLedTo files asked named account

-- what a request led to: the program file is refused, or it gave a program
abbrev pub RequestLedTo : Files → Asked → Account → Type 0
RequestLedTo files asked account = IsRefusedProgram files asked.program account ⊎ GaveProgram files asked account

-- what words led to: they are faulty, or they ask for something
abbrev pub WordsLedTo : List (List ℕ) → Files → Account → Type 0
WordsLedTo words files account = IsUsage words account ⊎ AsksFor words (λ asked. RequestLedTo files asked account)

-- what the report says is to be said of the call under this status, with this text
abbrev pub IsSaid : Call → Report → List ℕ → Status → Type 0
IsSaid call report text said = WordsLedTo call.words call.files (record { status = said; found = findings_of report; text = text })

-- all was said: the output grew by just the text, and no fault is hidden
pub record IsWritten (call : Call) (report : Report) (said : Status) : Type 0 where
  pub text : List ℕ
  pub is_said : IsSaid call report text said
  pub written : Extends call.output.held call.output.held_after text
  pub read : HidesNoReadFault call.files.faults call.files.faults_after said
  pub no_fault : call.output.faults_after ≡ call.output.faults

-- the output failed: its count of faults rose, and a part of the text that was to be written was
pub record IsWriteFault (call : Call) (report : Report) : Type 0 where
  pub said : Status
  pub text : List ℕ
  pub is_said : IsSaid call report text said
  pub part : ExtendsInPart call.output.held call.output.held_after text
  pub fault : Rose call.output.faults call.output.faults_after
  pub read : HidesNoReadFault call.files.faults call.files.faults_after said

-- memory ran out: nothing was written, and the report is that of no run
pub record IsOutOfMemory (call : Call) (report : Report) : Type 0 where
  pub unwritten : call.output.held_after ≡ call.output.held
  pub no_fault : call.output.faults_after ≡ call.output.faults
  pub nothing : findings_of report ≡ no_findings

-- the report, under this status, answers the call
abbrev pub IsAnswer : Call → Report → Status → Type 0
IsAnswer call report status.WriteFault = IsWriteFault call report
IsAnswer call report status.OutOfMemory = IsOutOfMemory call report
IsAnswer call report other = IsWritten call report other
