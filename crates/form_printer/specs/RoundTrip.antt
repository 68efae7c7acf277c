-- Reading and printing: each number in forms that were read is that of a name, so that they may be printed, and reading
-- what was printed gives the same forms.
use Rattle.std.specs.Prelude.{List, ℕ}
use Rattle.ops_text.specs.Names.{Names}
use Rattle.ops_reader.specs.declared.form.Form.{Form}
use Rattle.ops_tokens.specs.Token.{Token}
use Rattle.ops_tokens.specs.Tokens.{tokens_of}
use Rattle.ops_reader.specs.Grammar.{IsText}
use Rattle.form_printer.specs.Canonical.{canonical_text}
use Rattle.ops_reader.specs.Named.{AreNamed}

-- whatever forms tokens spell, the names behind them have each number in the forms
abbrev pub TextFormsAreNamed : Type 0
TextFormsAreNamed = (before after : Names) (tokens : List Token) (forms : List Form) → IsText before forms tokens after → AreNamed after forms

-- what was read with some names, and left others, is read again from its canonical text with those, and leaves them as they are
abbrev pub ReadsBack : Type 0
ReadsBack = (before after : Names) (text : List ℕ) (forms : List Form)
    → IsText before forms (tokens_of text) after → IsText after forms (tokens_of (canonical_text after forms)) after
