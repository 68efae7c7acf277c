-- What the reader's laws say of a text: it has one answer.
use Rattle.std.proofs.Common.{ℕ, List}
use Rattle.ops_text.specs.Names.{Names}
use Rattle.ops_reader.specs.declared.form.Form.{Form}
use Rattle.ops_reader.specs.declared.refusal.SyntaxKind.{SyntaxKind}
use Rattle.ops_tokens.specs.Tokens.{tokens_of}
use Rattle.ops_reader.specs.Grammar.{IsText}
use Rattle.ops_reader.specs.Refusal.{IsRefusedAt}
use Rattle.ops_reader.proofs.OneRefusal.{not_both}
pub use Rattle.ops_reader.proofs.ExactLemmas.{one_reading}
pub use Rattle.ops_reader.proofs.OneRefusal.{one_refusal}

-- a text that is refused spells no forms
pub one_outcome : (names : Names) (text : List ℕ) (forms : List Form) (after : Names) (at : ℕ) (kind : SyntaxKind) → IsText names forms (tokens_of text) after → IsRefusedAt names text at kind → ⊥
one_outcome names text forms after at kind spelled refused = not_both names text (forms, after, spelled) (at, kind, refused)
