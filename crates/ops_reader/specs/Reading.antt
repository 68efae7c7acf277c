-- Reading a text token by token: the names so far, the forms that are whole, and the part of the next one.
use Rattle.std.specs.Prelude.{List, [], ◌∷◌, ◌++◌, Option, Some}
use Rattle.std.specs.Option.{option_map, option_and_then}
use Rattle.ops_text.specs.Names.{Names}
use Rattle.ops_reader.specs.declared.form.Form.{Form}
use Rattle.ops_reader.specs.declared.part.Step.{Step}
use Rattle.ops_reader.specs.declared.part.Step.TheVariants.{Part, Whole}
use Rattle.ops_reader.specs.declared.part.FormPart.{FormPart}
use Rattle.ops_reader.specs.declared.part.FormPart.TheVariants as of_form
use Rattle.ops_tokens.specs.Token.{Token}
use Rattle.ops_reader.specs.FormReading.{form_after}

-- the names so far, the forms that are whole, and the part of the next one
pub record Read : Type 0 where
  pub names : Names
  pub forms : List Form
  pub part : FormPart

-- what has been read before the first token
abbrev pub start : Names → Read
start names = record { names = names; forms = []; part = of_form.Nothing }

-- the form is longer, or whole, and the next one has not begun
abbrev pub with_form : List Form → Names × Step FormPart Form → Read
with_form forms (names, Part part) = record { names = names; forms = forms; part = part }
with_form forms (names, Whole form) = record { names = names; forms = forms ++ form ∷ []; part = of_form.Nothing }

-- one more token, or none where it can't stand there
abbrev pub next : Read → Token → Option Read
next read token = option_map (with_form read.forms) (form_after read.names read.part token)

-- all of these tokens
abbrev pub run : Read → List Token → Option Read
run read [] = Some read
run read (token ∷ tokens) = option_and_then (λ r. run r tokens) (next read token)
