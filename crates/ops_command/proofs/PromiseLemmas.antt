-- A report that says what is to be said, all of which was written, keeps the promise.
use Rattle.std.proofs.Common.{◌≡◌, true≢false, ℕ, Bool, true, false, List, Option, None, Some, inl, inr, refl, sym, ap, ◌∙◌}
use Rattle.ops_text.specs.Output.{Extends}
use Rattle.ops_command.specs.declared.status.Status.{Status}
use Rattle.ops_command.specs.declared.status.Status.TheVariants as status
use Rattle.ops_command.specs.declared.status.Report.{Report}
use Rattle.ops_command.specs.declared.status.FileKind.{FileKind}
use Rattle.ops_command.specs.declared.status.FileKind.TheVariants as file
use Rattle.ops_command.specs.Words.{Asked}
use Rattle.ops_command.specs.Call.{Files, Call}
use Rattle.ops_command.specs.Account.{Account, refusal}
use Rattle.ops_command.specs.FileBytes.{IsUnread, HidesNoReadFault}
use Rattle.ops_command.specs.ProgramText.{NamedProgram, IsFaultyProgram}
use Rattle.ops_command.specs.ProgramFile.{IsRefusedProgram}
use Rattle.ops_command.specs.MemoryText.{IsFaultyMemory}
use Rattle.ops_command.specs.MemoryFile.{IsRefusedMemory}
use Rattle.rule_base.specs.declared.entry.Ending.{Ending}
use Rattle.rule_base.specs.declared.entry.Ending.TheVariants as ending
use Rattle.ops_command.specs.EndingWords.{status_of}
use Rattle.ops_command.specs.Ran.{RunFrom, Ran}
use Rattle.ops_command.specs.Answer.{ProgramLedTo, RequestLedTo, WordsLedTo, IsSaid, IsAnswer}
use Rattle.ops_command.specs.Promise.{KeepsPromise}
use Rattle.ops_command.proofs.DecidedLemmas.{under}

-- a status that can be said: not that of a fault of writing, nor of want of memory
abbrev can_be_said : Status → Bool
can_be_said status.Quiet = true
can_be_said status.Halted = true
can_be_said (status.Fault choice action why) = true
can_be_said (status.Usage kind) = true
can_be_said (status.Spent n) = true
can_be_said (status.ReadFault kind) = true
can_be_said status.WriteFault = false
can_be_said (status.TooLong kind) = true
can_be_said (status.Syntax kind at why) = true
can_be_said (status.Check kind form why) = true
can_be_said status.OutOfMemory = false

refusal_said : (account : Account) (said : Status) → can_be_said said ≡ true → account ≡ refusal said → can_be_said account.status ≡ true
refusal_said account said can is = ap can_be_said (under account said is) ∙ can

unread_said : (files : Files) (name : List ℕ) (kind : FileKind) (account : Account) → IsUnread files name kind account → can_be_said account.status ≡ true
unread_said files name kind account (inl fault) = refusal_said account (status.ReadFault kind) refl fault.said
unread_said files name kind account (inr long) = refusal_said account (status.TooLong kind) refl long.said

program_refused_said : (files : Files) (name : List ℕ) (account : Account) → IsRefusedProgram files name account → can_be_said account.status ≡ true
program_refused_said files name account (inl unread) = unread_said files name file.Program account unread
program_refused_said files name account (inr read) = by_reason read.bytes read.holds
  where
    by_reason : (bytes : List ℕ) → IsFaultyProgram bytes account → can_be_said account.status ≡ true
    by_reason bytes (inl wrong) = refusal_said account (status.Syntax file.Program wrong.at wrong.why) refl wrong.said
    by_reason bytes (inr wrong) = refusal_said account (status.Check file.Program wrong.violation.form wrong.violation.kind) refl wrong.said

memory_refused_said : (files : Files) (memory : Option (List ℕ)) (named : NamedProgram) (account : Account) → IsRefusedMemory files memory named account → can_be_said account.status ≡ true
memory_refused_said files None named account never = absurd never
memory_refused_said files (Some name) named account (inl unread) = unread_said files name file.Memory account unread
memory_refused_said files (Some name) named account (inr read) = by_reason read.bytes read.holds
  where
    by_reason : (bytes : List ℕ) → IsFaultyMemory named bytes account → can_be_said account.status ≡ true
    by_reason bytes (inl wrong) = refusal_said account (status.Syntax file.Memory wrong.at wrong.why) refl wrong.said
    by_reason bytes (inr wrong) = refusal_said account (status.Check file.Memory wrong.violation.form wrong.violation.kind) refl wrong.said

ending_said : (end : Ending) → can_be_said (status_of end) ≡ true
ending_said ending.Quiet = refl
ending_said ending.Halted = refl
ending_said (ending.Spent n) = refl
ending_said (ending.Fault choice action why) = refl

run_said : (start : RunFrom) (account : Account) → Ran start account → can_be_said account.status ≡ true
run_said start account ran = ap can_be_said ran.under ∙ ending_said ran.end

program_said : (files : Files) (asked : Asked) (named : NamedProgram) (account : Account) → ProgramLedTo files asked named account → can_be_said account.status ≡ true
program_said files asked named account (inl refused) = memory_refused_said files asked.memory named account refused
program_said files asked named account (inr ran) = run_said _ account ran.ran

asked_can_be_said : (files : Files) (asked : Asked) (account : Account) → RequestLedTo files asked account → can_be_said account.status ≡ true
asked_can_be_said files asked account (inl refused) = program_refused_said files asked.program account refused
asked_can_be_said files asked account (inr given) = program_said files asked given.named account given.said

words_can_be_said : (words : List (List ℕ)) (files : Files) (account : Account) → WordsLedTo words files account → can_be_said account.status ≡ true
words_can_be_said words files account (inl usage) = refusal_said account (status.Usage usage.kind) refl usage.said
words_can_be_said words files account (inr asks) = asked_can_be_said files asks.asked account asks.holds

IsAnswer-written : (call : Call) (report : Report) (text : List ℕ) (said : Status) → IsSaid call report text said → Extends call.output.held call.output.held_after text
    → HidesNoReadFault call.files.faults call.files.faults_after said → call.output.faults_after ≡ call.output.faults → IsAnswer call report said
IsAnswer-written call report text status.Quiet says written read no_fault = record { text = text; is_said = says; written = written; read = read; no_fault = no_fault }
IsAnswer-written call report text status.Halted says written read no_fault = record { text = text; is_said = says; written = written; read = read; no_fault = no_fault }
IsAnswer-written call report text (status.Fault choice action why) says written read no_fault = record { text = text; is_said = says; written = written; read = read; no_fault = no_fault }
IsAnswer-written call report text (status.Usage kind) says written read no_fault = record { text = text; is_said = says; written = written; read = read; no_fault = no_fault }
IsAnswer-written call report text (status.Spent n) says written read no_fault = record { text = text; is_said = says; written = written; read = read; no_fault = no_fault }
IsAnswer-written call report text (status.ReadFault kind) says written read no_fault = record { text = text; is_said = says; written = written; read = read; no_fault = no_fault }
IsAnswer-written call report text status.WriteFault says written read no_fault = absurd (true≢false (sym (words_can_be_said call.words call.files _ says)))
IsAnswer-written call report text (status.TooLong kind) says written read no_fault = record { text = text; is_said = says; written = written; read = read; no_fault = no_fault }
IsAnswer-written call report text (status.Syntax kind at why) says written read no_fault = record { text = text; is_said = says; written = written; read = read; no_fault = no_fault }
IsAnswer-written call report text (status.Check kind form why) says written read no_fault = record { text = text; is_said = says; written = written; read = read; no_fault = no_fault }
IsAnswer-written call report text status.OutOfMemory says written read no_fault = absurd (true≢false (sym (words_can_be_said call.words call.files _ says)))

pub KeepsPromise-written : (call : Call) (report : Report) (text : List ℕ) → IsSaid call report text report.status → Extends call.output.held call.output.held_after text
    → HidesNoReadFault call.files.faults call.files.faults_after report.status → call.output.faults_after ≡ call.output.faults → KeepsPromise call report
KeepsPromise-written call report text says written read no_fault = record { caused = IsAnswer-written call report text report.status says written read no_fault }
