-- Reading token by token is exact: it goes on as long as the tokens begin a text, and no longer.
use Rattle.std.specs.Prelude.{◌≡◌, List, Some, IsSome}
use Rattle.ops_text.specs.Names.{Names}
use Rattle.ops_reader.specs.declared.form.Form.{Form}
use Rattle.ops_reader.specs.declared.part.FormPart.TheVariants as of_form
use Rattle.ops_tokens.specs.Token.{Token}
use Rattle.ops_reader.specs.Grammar.{IsText}
use Rattle.ops_reader.specs.Refusal.{BeginsText}
use Rattle.ops_reader.specs.Reading.{Read, start, run}

-- these forms have been read, and none is open
abbrev pub done : List Form → Names → Read
done forms names = record { names = names; forms = forms; part = of_form.Nothing }

-- reading goes on as long as the tokens begin a text
pub record ReadsFronts (names : Names) (tokens : List Token) : Type 0 where
  pub goes_on : BeginsText names tokens → IsSome (run (start names) tokens)
  pub no_longer : (read : Read) → run (start names) tokens ≡ Some read → BeginsText names tokens

-- reading ends between two forms exactly behind the tokens of a text
pub record ReadsTexts (names : Names) (tokens : List Token) (forms : List Form) (after : Names) : Type 0 where
  pub to_its_end : IsText names forms tokens after → run (start names) tokens ≡ Some (done forms after)
  pub nothing_else : run (start names) tokens ≡ Some (done forms after) → IsText names forms tokens after

-- the tokens and the names before them determine the forms and the names after them
abbrev pub HasOneReading : Names → List Token → Type 0
HasOneReading names tokens = (forms others : List Form) (after later : Names)
    → IsText names forms tokens after → IsText names others tokens later → (forms ≡ others) × (after ≡ later)
