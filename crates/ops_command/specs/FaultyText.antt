-- What is wrong with a text that was read: it is refused by the grammar, or its forms by the rules of the language.
use Rattle.std.specs.Prelude.{◌≡◌, ℕ, List, Result, Err}
use Rattle.ops_text.specs.Names.{Names}
use Rattle.ops_reader.specs.declared.form.Form.{Form}
use Rattle.ops_reader.specs.declared.refusal.SyntaxKind.{SyntaxKind}
use Rattle.ops_tokens.specs.Tokens.{tokens_of}
use Rattle.ops_reader.specs.Grammar.{IsText}
use Rattle.ops_reader.specs.Refusal.{IsRefusedAt}
use Rattle.rule_checker.specs.declared.refusal.CheckRefusal.{CheckRefusal}
use Rattle.rule_checker.specs.declared.refusal.CheckRefusal.TheVariants as check_refusal
use Rattle.rule_checker.specs.Forms.{Violation}
use Rattle.ops_command.specs.declared.status.FileKind.{FileKind}
use Rattle.ops_command.specs.declared.status.Status.{Status}
use Rattle.ops_command.specs.declared.status.Status.TheVariants as status
use Rattle.ops_command.specs.Account.{Account, refusal}

-- the bytes are refused at a place for a reason, where the text begins with these names
pub record IsSyntaxError (names : Names) (bytes : List ℕ) (kind : FileKind) (account : Account) : Type 0 where
  pub at : ℕ
  pub why : SyntaxKind
  pub refused : IsRefusedAt names bytes at why
  pub said : account ≡ refusal (status.Syntax kind at why)

-- the bytes are the text of forms of which what is defined of them is a violation
pub record IsCheckError {A : Type 0} (defined : List Form → Result A Violation) (names : Names) (bytes : List ℕ) (kind : FileKind) (account : Account) : Type 0 where
  pub forms : List Form
  pub after : Names
  pub text : IsText names forms (tokens_of bytes) after
  pub violation : Violation
  pub violated : defined forms ≡ Err violation
  pub said : account ≡ refusal (status.Check kind violation.form violation.kind)

-- the status where forms of a file are refused so
abbrev pub check_status : FileKind → CheckRefusal → Status
check_status kind (check_refusal.Check form why) = status.Check kind form why
check_status kind check_refusal.OutOfMemory = status.OutOfMemory
