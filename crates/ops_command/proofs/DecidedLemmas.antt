-- Where no count of faults rose, what is said of the words is decided by them and the files.
use Rattle.std.proofs.Common.{◌≡◌, ℕ, ◌<◌, ◌≤◌, inl, inr, List, Option, None, Some, Result, Ok, Err, length, refl, sym, ap, ◌∙◌, subst, arith}
use Rattle.rule_base.specs.declared.program.Program.{Program}
use Rattle.ops_text.specs.Names.{Names}
use Rattle.ops_text.specs.Faults.{Rose}
use Rattle.ops_reader.specs.declared.form.Form.{Form}
use Rattle.ops_reader.specs.declared.refusal.SyntaxKind.{SyntaxKind}
use Rattle.ops_tokens.specs.Tokens.{tokens_of}
use Rattle.ops_reader.specs.Grammar.{IsText}
use Rattle.ops_reader.specs.Refusal.{IsRefusedAt}
use Rattle.rule_checker.specs.Forms.{Violation}
use Rattle.rule_checker.specs.Checked.{checked}
use Rattle.rule_checker.specs.Opening.{opening_list}
use Rattle.ops_command.specs.declared.status.UsageKind.{UsageKind}
use Rattle.ops_command.specs.declared.status.FileKind.{FileKind}
use Rattle.ops_command.specs.declared.status.FileKind.TheVariants as file
use Rattle.ops_command.specs.declared.status.Status.{Status}
use Rattle.ops_command.specs.declared.status.Status.TheVariants as status
use Rattle.ops_command.specs.Words.{Asked, asked_by}
use Rattle.ops_command.specs.Call.{Files, Call}
use Rattle.ops_command.specs.Account.{Account, refusal}
use Rattle.ops_command.specs.FileBytes.{most_bytes, WereRead}
use Rattle.ops_command.specs.FaultyText.{IsSyntaxError, IsCheckError}
use Rattle.ops_command.specs.ProgramText.{first_names, NamedProgram, Defines, IsFaultyProgram}
use Rattle.ops_command.specs.MemoryText.{NamedOpening, Opens, IsFaultyMemory}
use Rattle.ops_command.specs.MemoryFile.{GivesOpening, IsRefusedMemory, OpensAlone}
use Rattle.ops_command.specs.Ran.{IsOfEnding, Ran, RunFrom, start_of}
use Rattle.ops_command.specs.Answer.{ProgramLedTo, RequestLedTo, WordsLedTo}
use Rattle.ops_command.specs.Decided.{HasNoFault, IsUnlessOutOfMemory, AsksToRun, AsksToRunProgram, AsksToLoad, DecidesText, IsDecided}
use Rattle.ops_command.proofs.ChainLemmas.{same_ok, same_err}
use Rattle.ops_command.proofs.ReaderLemmas.{one_reading, one_outcome, one_refusal}

ok_err : {T E : Type 0} {t : T} {e : E} → ◌≡◌ {A = Result T E} (Ok t) (Err e) → ⊥
ok_err same = cc

-- the status of a refusal
pub under : (account : Account) (said : Status) → account ≡ refusal said → account.status ≡ said
under account said is = ap (λ (a : Account). a.status) is

-- what is said of the words under which nothing is asked for
usage_said : (words : List (List ℕ)) (files : Files) (account : Account) (kind : UsageKind) → WordsLedTo words files account → asked_by words ≡ Err kind → IsUnlessOutOfMemory (status.Usage kind) account.status
usage_said words files account kind (inl usage) faulty = inl (under account (status.Usage usage.kind) usage.said ∙ ap status.Usage (same_err (sym usage.faulty ∙ faulty)))
usage_said words files account kind (inr asks) faulty = absurd (ok_err (sym asks.by_words ∙ faulty))

-- what is said of what the words ask for
asked_said : (words : List (List ℕ)) (files : Files) (account : Account) (asked : Asked) → WordsLedTo words files account → asked_by words ≡ Ok asked → RequestLedTo files asked account
asked_said words files account asked (inl usage) by_words = absurd (ok_err (sym by_words ∙ usage.faulty))
asked_said words files account asked (inr asks) by_words = subst (λ (a : Asked). RequestLedTo files a account) (same_ok (sym asks.by_words ∙ by_words)) asks.holds

-- faults of a text, told of one account
record IsFaultOf {A : Type 0} (defined : List Form → Result A Violation) (names : Names) (bytes : List ℕ) (kind : FileKind) (account : Account) : Type 0 where
  pub syntax : (at : ℕ) (why : SyntaxKind) → IsRefusedAt names bytes at why → account.status ≡ status.Syntax kind at why
  pub check : (forms : List Form) (after : Names) (violation : Violation) → IsText names forms (tokens_of bytes) after → defined forms ≡ Err violation
      → account.status ≡ status.Check kind violation.form violation.kind

syntax_decides : {A : Type 0} (defined : List Form → Result A Violation) (names : Names) (bytes : List ℕ) (kind : FileKind) (account : Account) → IsSyntaxError names bytes kind account → IsFaultOf defined names bytes kind account
syntax_decides defined names bytes kind account wrong = record {
  syntax = λ at why refused.
      let same = one_refusal names bytes wrong.at at wrong.why why wrong.refused refused in
      under account (status.Syntax kind wrong.at wrong.why) wrong.said ∙ ap (λ (a : ℕ). status.Syntax kind a wrong.why) same.0 ∙ ap (λ (w : SyntaxKind). status.Syntax kind at w) same.1;
  check = λ forms after violation text violated. absurd (one_outcome names bytes forms after wrong.at wrong.why text wrong.refused);
}

check_decides : {A : Type 0} (defined : List Form → Result A Violation) (names : Names) (bytes : List ℕ) (kind : FileKind) (account : Account) → IsCheckError defined names bytes kind account → IsFaultOf defined names bytes kind account
check_decides defined names bytes kind account wrong = record {
  syntax = λ at why refused. absurd (one_outcome names bytes wrong.forms wrong.after at why wrong.text refused);
  check = λ forms after violation text violated.
      let same = one_reading names (tokens_of bytes) wrong.forms forms wrong.after after wrong.text text in
      let one : wrong.violation ≡ violation = same_err (sym wrong.violated ∙ ap defined same.0 ∙ violated) in
      under account (status.Check kind wrong.violation.form wrong.violation.kind) wrong.said ∙ ap (λ (v : Violation). status.Check kind v.form v.kind) one;
}

-- a text that is right has no faults
right_decides : {A : Type 0} (defined : List Form → Result A Violation) (names : Names) (bytes : List ℕ) (kind : FileKind) (account : Account) (forms : List Form) (after : Names) (a : A) → IsText names forms (tokens_of bytes) after → defined forms ≡ Ok a → IsFaultOf defined names bytes kind account
right_decides defined names bytes kind account forms after a text right = record {
  syntax = λ at why refused. absurd (one_outcome names bytes forms after at why text refused);
  check = λ others later violation other_text violated.
      let same = one_reading names (tokens_of bytes) forms others after later text other_text in
      absurd (ok_err (sym right ∙ ap defined same.0 ∙ violated));
}

-- in the words of the promise
decides : {A : Type 0} (defined : List Form → Result A Violation) (names : Names) (bytes : List ℕ) (kind : FileKind) (account : Account) → IsFaultOf defined names bytes kind account → DecidesText defined names bytes kind account.status
decides defined names bytes kind account fault = record {
  syntax = λ at why refused. inl (fault.syntax at why refused);
  check = λ forms after violation text violated. inl (fault.check forms after violation text violated);
}

-- what is said where a program file that is told was read
data BytesLedTo (files : Files) (asked : Asked) (bytes : List ℕ) (account : Account) : Type 0 where
  IsLong : most_bytes < length bytes → account.status ≡ status.TooLong file.Program → BytesLedTo files asked bytes account
  IsFaulty : length bytes ≤ most_bytes → IsFaultyProgram bytes account → BytesLedTo files asked bytes account
  IsRight : length bytes ≤ most_bytes → (named : NamedProgram) → Defines bytes named → ProgramLedTo files asked named account → BytesLedTo files asked bytes account

bytes_said : (files : Files) (asked : Asked) (bytes : List ℕ) (account : Account) → ((name : List ℕ) → ¬ Rose (files.faults name) (files.faults_after name)) → files.told asked.program ≡ Some bytes → RequestLedTo files asked account → BytesLedTo files asked bytes account
bytes_said files asked bytes account calm told (inl (inl (inl fault))) = absurd (calm asked.program fault.fault)
bytes_said files asked bytes account calm told (inl (inl (inr long))) = IsLong (long.long bytes told) (under account (status.TooLong file.Program) long.said)
bytes_said files asked bytes account calm told (inl (inr read)) =
    let same = read.are.as_told bytes told in
    IsFaulty (subst (λ (b : List ℕ). length b ≤ most_bytes) same read.are.short) (subst (λ (b : List ℕ). IsFaultyProgram b account) same read.holds)
bytes_said files asked bytes account calm told (inr given) =
    let same = given.gives.are.as_told bytes told in
    IsRight (subst (λ (b : List ℕ). length b ≤ most_bytes) same given.gives.are.short) given.named (subst (λ (b : List ℕ). Defines b given.named) same given.gives.holds) given.said

long_decided : (files : Files) (asked : Asked) (bytes : List ℕ) (account : Account) → most_bytes < length bytes → BytesLedTo files asked bytes account → account.status ≡ status.TooLong file.Program
long_decided files asked bytes account long (IsLong more is) = is
long_decided files asked bytes account long (IsFaulty short wrong) = absurd (omega (arith, long, short))
long_decided files asked bytes account long (IsRight short named defines said) = absurd (omega (arith, long, short))

text_decided : (files : Files) (asked : Asked) (bytes : List ℕ) (account : Account) → length bytes ≤ most_bytes → BytesLedTo files asked bytes account → IsFaultOf checked first_names bytes file.Program account
text_decided files asked bytes account short (IsLong more is) = absurd (omega (arith, more, short))
text_decided files asked bytes account short (IsFaulty le (inl wrong)) = syntax_decides checked first_names bytes file.Program account wrong
text_decided files asked bytes account short (IsFaulty le (inr wrong)) = check_decides checked first_names bytes file.Program account wrong
text_decided files asked bytes account short (IsRight le named defines said) = right_decides checked first_names bytes file.Program account defines.forms named.names named.program defines.text defines.declares

-- bytes define one program
one_program : (bytes : List ℕ) (named other : NamedProgram) → Defines bytes named → Defines bytes other → named ≡ other
one_program bytes named other defines others =
    let same = one_reading first_names (tokens_of bytes) defines.forms others.forms named.names other.names defines.text others.text in
    let program : named.program ≡ other.program = same_ok (sym defines.declares ∙ ap checked same.0 ∙ others.declares) in
    ap (λ (p : Program). record { program = p; names = named.names }) program ∙ ap (λ (ns : Names). record { program = other.program; names = ns }) same.1

program_decided : (files : Files) (asked : Asked) (bytes : List ℕ) (account : Account) (named : NamedProgram) → length bytes ≤ most_bytes → Defines bytes named → BytesLedTo files asked bytes account → ProgramLedTo files asked named account
program_decided files asked bytes account named short defines (IsLong more is) = absurd (omega (arith, more, short))
program_decided files asked bytes account named short defines (IsFaulty le (inl wrong)) = absurd (one_outcome first_names bytes defines.forms named.names wrong.at wrong.why defines.text wrong.refused)
program_decided files asked bytes account named short defines (IsFaulty le (inr wrong)) =
    let same = one_reading first_names (tokens_of bytes) defines.forms wrong.forms named.names wrong.after defines.text wrong.text in
    absurd (ok_err (sym defines.declares ∙ ap checked same.0 ∙ wrong.violated))
program_decided files asked bytes account named short defines (IsRight le other others said) = subst (λ (n : NamedProgram). ProgramLedTo files asked n account) (one_program bytes other named others defines) said

-- what is said where a memory file that is told was read
data MemoryLedTo (named : NamedProgram) (budget : ℕ) (bytes : List ℕ) (account : Account) : Type 0 where
  IsLongMemory : most_bytes < length bytes → account.status ≡ status.TooLong file.Memory → MemoryLedTo named budget bytes account
  IsFaultyText : length bytes ≤ most_bytes → IsFaultyMemory named bytes account → MemoryLedTo named budget bytes account
  IsOpened : length bytes ≤ most_bytes → (opening : NamedOpening) → Opens named bytes opening → Ran (start_of budget named opening) account → MemoryLedTo named budget bytes account

-- the status of a run is that of its ending
IsOfEnding-ran : (from : RunFrom) (account : Account) → Ran from account → IsOfEnding from account.status
IsOfEnding-ran from account ran = record { choices = account.found.choices; state = ran.state; end = ran.end; comes = ran.comes; under = ran.under }

-- bytes give one opening memory
one_memory : (a b : NamedOpening) → a.elements ≡ b.elements → a.names ≡ b.names → a ≡ b
one_memory a b elements names = λ i. record { elements = elements i; names = names i }

one_opening : (named : NamedProgram) (bytes : List ℕ) (a b : NamedOpening) → Opens named bytes a → Opens named bytes b → a ≡ b
one_opening named bytes a b first second =
    let same = one_reading named.names (tokens_of bytes) first.forms second.forms a.names b.names first.text second.text in
    one_memory a b (same_ok (sym first.makes ∙ ap (opening_list named.program) same.0 ∙ second.makes)) same.1

-- and so does a program without a memory file
one_alone : (named : NamedProgram) (a b : NamedOpening) → OpensAlone named a → OpensAlone named b → a ≡ b
one_alone named a b first second = one_memory a b (same_ok (sym first.makes ∙ second.makes)) (first.names ∙ sym second.names)

memory_said : (files : Files) (asked : Asked) (named : NamedProgram) (name bytes : List ℕ) (account : Account) → ((name : List ℕ) → ¬ Rose (files.faults name) (files.faults_after name)) → asked.memory ≡ Some name → files.told name ≡ Some bytes → ProgramLedTo files asked named account
    → MemoryLedTo named asked.budget bytes account
memory_said files asked named name bytes account calm memory told (inl refused) = by_reason (subst (λ (m : Option (List ℕ)). IsRefusedMemory files m named account) memory refused)
  where
    by_reason : IsRefusedMemory files (Some name) named account → MemoryLedTo named asked.budget bytes account
    by_reason (inl (inl fault)) = absurd (calm name fault.fault)
    by_reason (inl (inr long)) = IsLongMemory (long.long bytes told) (under account (status.TooLong file.Memory) long.said)
    by_reason (inr read) =
        let same = read.are.as_told bytes told in
        IsFaultyText (subst (λ (b : List ℕ). length b ≤ most_bytes) same read.are.short) (subst (λ (b : List ℕ). IsFaultyMemory named b account) same read.holds)
memory_said files asked named name bytes account calm memory told (inr ran) =
    let read : WereRead files.told name (λ b. Opens named b ran.opening) = subst (λ (m : Option (List ℕ)). GivesOpening files.told m named ran.opening) memory ran.opens in
    let same = read.are.as_told bytes told in
    IsOpened (subst (λ (b : List ℕ). length b ≤ most_bytes) same read.are.short) ran.opening (subst (λ (b : List ℕ). Opens named b ran.opening) same read.holds) ran.ran

long_memory_decided : (named : NamedProgram) (budget : ℕ) (bytes : List ℕ) (account : Account) → most_bytes < length bytes → MemoryLedTo named budget bytes account → account.status ≡ status.TooLong file.Memory
long_memory_decided named budget bytes account long (IsLongMemory more is) = is
long_memory_decided named budget bytes account long (IsFaultyText short wrong) = absurd (omega (arith, long, short))
long_memory_decided named budget bytes account long (IsOpened short opening opens ran) = absurd (omega (arith, long, short))

memory_decided : (named : NamedProgram) (budget : ℕ) (bytes : List ℕ) (account : Account) → length bytes ≤ most_bytes → MemoryLedTo named budget bytes account → IsFaultOf (opening_list named.program) named.names bytes file.Memory account
memory_decided named budget bytes account short (IsLongMemory more is) = absurd (omega (arith, more, short))
memory_decided named budget bytes account short (IsFaultyText le (inl wrong)) = syntax_decides (opening_list named.program) named.names bytes file.Memory account wrong
memory_decided named budget bytes account short (IsFaultyText le (inr wrong)) = check_decides (opening_list named.program) named.names bytes file.Memory account wrong
memory_decided named budget bytes account short (IsOpened le opening opens ran) = right_decides (opening_list named.program) named.names bytes file.Memory account opens.forms opening.names opening.elements opens.text opens.makes

run_decided : (named : NamedProgram) (budget : ℕ) (bytes : List ℕ) (account : Account) (opening : NamedOpening) → length bytes ≤ most_bytes → Opens named bytes opening → MemoryLedTo named budget bytes account → IsOfEnding (start_of budget named opening) account.status
run_decided named budget bytes account opening short opens (IsLongMemory more is) = absurd (omega (arith, more, short))
run_decided named budget bytes account opening short opens (IsFaultyText le (inl wrong)) = absurd (one_outcome named.names bytes opens.forms opening.names wrong.at wrong.why opens.text wrong.refused)
run_decided named budget bytes account opening short opens (IsFaultyText le (inr wrong)) =
    let same = one_reading named.names (tokens_of bytes) opens.forms wrong.forms opening.names wrong.after opens.text wrong.text in
    absurd (ok_err (sym opens.makes ∙ ap (opening_list named.program) same.0 ∙ wrong.violated))
run_decided named budget bytes account opening short opens (IsOpened le other others ran) =
    IsOfEnding-ran (start_of budget named opening) account (subst (λ (o : NamedOpening). Ran (start_of budget named o) account) (one_opening named bytes other opening others opens) ran)

-- with a memory file or without one
from_decided : (files : Files) (asked : Asked) (named : NamedProgram) (opening : NamedOpening) (account : Account) → ((name : List ℕ) → ¬ Rose (files.faults name) (files.faults_after name)) → ((name : List ℕ) → asked.memory ≡ Some name → (bytes : List ℕ) × (files.told name ≡ Some bytes))
    → GivesOpening files.told asked.memory named opening → ProgramLedTo files asked named account → IsOfEnding (start_of asked.budget named opening) account.status
from_decided files asked named opening account calm told opens said = by_memory asked.memory refl
  where
    alone : asked.memory ≡ None → ProgramLedTo files asked named account → IsOfEnding (start_of asked.budget named opening) account.status
    alone none (inl refused) = absurd (subst (λ (m : Option (List ℕ)). IsRefusedMemory files m named account) none refused)
    alone none (inr ran) =
        let first : OpensAlone named ran.opening = subst (λ (m : Option (List ℕ)). GivesOpening files.told m named ran.opening) none ran.opens in
        let second : OpensAlone named opening = subst (λ (m : Option (List ℕ)). GivesOpening files.told m named opening) none opens in
        IsOfEnding-ran (start_of asked.budget named opening) account (subst (λ (o : NamedOpening). Ran (start_of asked.budget named o) account) (one_alone named ran.opening opening first second) ran.ran)

    by_memory : (memory : Option (List ℕ)) → asked.memory ≡ memory → IsOfEnding (start_of asked.budget named opening) account.status
    by_memory None is = alone is said
    by_memory (Some name) is =
        let bytes = told name is in
        let read : WereRead files.told name (λ b. Opens named b opening) = subst (λ (m : Option (List ℕ)). GivesOpening files.told m named opening) is opens in
        let same = read.are.as_told bytes.0 bytes.1 in
        run_decided named asked.budget bytes.0 account opening (subst (λ (b : List ℕ). length b ≤ most_bytes) same read.are.short) (subst (λ (b : List ℕ). Opens named b opening) same read.holds)
        (memory_said files asked named name bytes.0 account calm is bytes.1 said)

-- the status of what is said is decided
pub IsDecided-said : (call : Call) (account : Account) → HasNoFault call → WordsLedTo call.words call.files account → IsDecided call account.status
IsDecided-said call account calm said =
    let read = λ (asked : Asked) (bytes : List ℕ) (asks : AsksToRun call asked bytes). bytes_said call.files asked bytes account calm.reading asks.told (asked_said call.words call.files account asked said asks.by_words) in
    let of_program = λ (asked : Asked) (named : NamedProgram) (asks : AsksToRunProgram call asked named). program_decided call.files asked asks.bytes account named asks.short asks.defines (read asked asks.bytes asks.asks) in
    let loaded = λ (asked : Asked) (named : NamedProgram) (bytes : List ℕ) (asks : AsksToLoad call asked named bytes). memory_said call.files asked named asks.name bytes account calm.reading asks.by_words asks.told (of_program asked named asks.asks) in record {
      usage = λ kind faulty. usage_said call.words call.files account kind said faulty;
      program_too_long = λ asked bytes asks long. inl (long_decided call.files asked bytes account long (read asked bytes asks));
      program_text = λ asked bytes asks short. decides checked first_names bytes file.Program account (text_decided call.files asked bytes account short (read asked bytes asks));
      memory_too_long = λ asked named bytes asks long. inl (long_memory_decided named asked.budget bytes account long (loaded asked named bytes asks));
      memory_text = λ asked named bytes asks short. decides (opening_list named.program) named.names bytes file.Memory account (memory_decided named asked.budget bytes account short (loaded asked named bytes asks));
      runs = λ asked named opening asks. inl (from_decided call.files asked named opening account calm.reading asks.told asks.opens (of_program asked named asks.asks));
    }
