-- A text is decided: it is the text of some forms, or it is refused at one place for one reason, and never both.
use Rattle.std.specs.Prelude.{◌≡◌, ◌⊎◌, ℕ, List}
use Rattle.ops_text.specs.Names.{Names}
use Rattle.ops_reader.specs.declared.form.Form.{Form}
use Rattle.ops_reader.specs.declared.refusal.SyntaxKind.{SyntaxKind}
use Rattle.ops_tokens.specs.Tokens.{tokens_of}
use Rattle.ops_reader.specs.Grammar.{IsText}
use Rattle.ops_reader.specs.Refusal.{IsRefusedAt}

-- the text spells some forms
abbrev pub SpellsForms : Names → List ℕ → Type 0
SpellsForms names text = (forms : List Form) × (after : Names) × IsText names forms (tokens_of text) after

-- the text is refused at some place for some reason
abbrev pub IsRefusedSomewhere : Names → List ℕ → Type 0
IsRefusedSomewhere names text = (at : ℕ) × (kind : SyntaxKind) × IsRefusedAt names text at kind

-- there is one answer to a text
pub record IsDecided (names : Names) (text : List ℕ) : Type 0 where
  pub answered : SpellsForms names text ⊎ IsRefusedSomewhere names text
  pub not_both : SpellsForms names text → ¬ IsRefusedSomewhere names text
  -- there is no second place and no second reason
  pub one_refusal : (at other : ℕ) (kind why : SyntaxKind) → IsRefusedAt names text at kind → IsRefusedAt names text other why
      → (at ≡ other) × (kind ≡ why)
