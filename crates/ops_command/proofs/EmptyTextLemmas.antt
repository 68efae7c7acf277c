-- The empty text is that of no forms, and so a program without a memory file opens alone.
use Rattle.std.proofs.Common.{◌≡◌, ℕ, List, [], Option, None, refl, sym, ap, ◌∙◌, subst, inl, inr}
use Rattle.ops_text.specs.Names.{Names}
use Rattle.ops_tokens.specs.Tokens.{tokens_of}
use Rattle.ops_reader.specs.Grammar.{IsText}
use Rattle.rule_checker.specs.Opening.{opening_list}
use Rattle.ops_command.specs.Account.{Account}
use Rattle.ops_command.specs.ProgramText.{NamedProgram}
use Rattle.ops_command.specs.MemoryText.{NamedOpening, Opens, IsFaultyMemory}
use Rattle.ops_command.specs.MemoryFile.{OpensAlone, GivesOpening, IsRefusedMemory}
use Rattle.ops_command.specs.Call.{Files}
use Rattle.ops_command.specs.Account.{IsRefusal}
use Rattle.ops_command.specs.declared.status.Status.{Status}
use Rattle.ops_command.proofs.ReaderLemmas.{one_reading, one_outcome}

empty_text : (names : Names) → IsText names [] (tokens_of []) names
empty_text names = (refl, refl)

pub OpensAlone-empty : (named : NamedProgram) (opening : NamedOpening) → Opens named [] opening → OpensAlone named opening
OpensAlone-empty named opening opens =
    let same = one_reading named.names (tokens_of []) opens.forms [] opening.names named.names opens.text (empty_text named.names) in record {
      makes = ap (opening_list named.program) (sym same.0) ∙ opens.makes;
      names = same.1;
    }

pub IsFaultyMemory-empty : (named : NamedProgram) (account : Account) → IsFaultyMemory named [] account → ⊥
IsFaultyMemory-empty named account (inl wrong) = one_outcome named.names [] [] named.names wrong.at wrong.why (empty_text named.names) wrong.refused
IsFaultyMemory-empty named account (inr wrong) =
    let same = one_reading named.names (tokens_of []) wrong.forms [] wrong.after named.names wrong.text (empty_text named.names) in
    let never = ap (opening_list named.program) (sym same.0) ∙ wrong.violated in
    absurd (let no : ⊥ = cc in no)

-- the same of what is asked for, where that is no memory file
pub GivesOpening-empty : (told : List ℕ → Option (List ℕ)) (memory : Option (List ℕ)) (named : NamedProgram) (opening : NamedOpening) → memory ≡ None → Opens named [] opening → GivesOpening told memory named opening
GivesOpening-empty told memory named opening none opens = subst (λ (m : Option (List ℕ)). GivesOpening told m named opening) (sym none) (OpensAlone-empty named opening opens)

pub IsRefusedMemory-empty : (files : Files) (memory : Option (List ℕ)) (named : NamedProgram) (said : Status) → IsRefusal (IsFaultyMemory named []) said → IsRefusal (IsRefusedMemory files memory named) said
IsRefusedMemory-empty files memory named said (inl out) = inl out
IsRefusedMemory-empty files memory named said (inr wrong) = absurd (IsFaultyMemory-empty named _ wrong)
