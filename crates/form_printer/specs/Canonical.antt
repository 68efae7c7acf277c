-- The canonical text of forms: a line for each, and a space between its tokens but for brackets and carets.
use Rattle.std.specs.Prelude.{ℕ, List, ◌++◌, Bool, true, false, codes, decimal}
use Rattle.std.specs.List.{flat_map}
use Rattle.ops_text.specs.Names.{Names}
use Rattle.ops_reader.specs.declared.form.Form.{Form}
use Rattle.ops_reader.specs.declared.form.Form.TheVariants as a_form
use Rattle.form_printer.specs.CanonicalValues.{symbol_text, constant_text, spaced, setting_text}
use Rattle.form_printer.specs.CanonicalConditions.{condition_text}
use Rattle.form_printer.specs.CanonicalActions.{action_text}

-- the word for a strategy
abbrev pub strategy_text : Bool → List ℕ
strategy_text true = codes "mea"
strategy_text false = codes "lex"

-- a form, without the end of its line
abbrev pub form_text : Names → Form → List ℕ
form_text names (a_form.Literalize class attrs) = codes "(literalize " ++ symbol_text names class ++ spaced (symbol_text names) attrs ++ codes ")"
form_text names (a_form.P name conds actions) =
    codes "(p " ++ symbol_text names name ++ spaced (condition_text names) conds ++ codes " -->" ++ spaced (action_text names) actions ++ codes ")"
form_text names (a_form.Make class sets) =
    codes "(make " ++ symbol_text names class ++ spaced (setting_text names (constant_text names)) sets ++ codes ")"
form_text names (a_form.Strategy mea) = codes "(strategy " ++ strategy_text mea ++ codes ")"
form_text names (a_form.Watch level) = codes "(watch " ++ decimal level ++ codes ")"

-- the canonical text: each form with a line feed behind it
abbrev pub canonical_text : Names → List Form → List ℕ
canonical_text names forms = flat_map (λ f. form_text names f ++ codes "\n") forms
