-- The grammar: which tokens spell which forms.
use Rattle.std.specs.Prelude.{List, Bool, true, false}
use Rattle.ops_text.specs.Names.{Names}
use Rattle.ops_tokens.specs.declared.token.Keyword.{Keyword}
use Rattle.ops_tokens.specs.declared.token.Keyword.TheVariants as a_keyword
use Rattle.ops_reader.specs.declared.form.Form.{Form}
use Rattle.ops_reader.specs.declared.form.Form.TheVariants as a_form
use Rattle.ops_tokens.specs.Token.{Token, Open, Close, Arrow}
pub use Rattle.ops_reader.specs.Phrase.{Phrase, nothing, never, ◌⨾◌, either, any, some, the, keyword, up_to, naming}
pub use Rattle.ops_reader.specs.Values.{symbol, variable, constant, literal, argument, setting}
pub use Rattle.ops_reader.specs.Conditions.{compared, simple, alone, test, pattern, signed, condition}
pub use Rattle.ops_reader.specs.Actions.{operator, expression, operand, term, designator, item, action}

-- the word for a strategy: `mea`, or else `lex`
abbrev pub strategy_word : Bool → Keyword
strategy_word true = a_keyword.Mea
strategy_word false = a_keyword.Lex

-- a form at the top level: a class, a rule, an opening element, a strategy, or how much is to be told
abbrev pub form : Form → Phrase
form (a_form.Literalize class attrs) = the Open ⨾ keyword a_keyword.Literalize ⨾ symbol class ⨾ any symbol attrs ⨾ the Close
form (a_form.P name conds actions) =
    the Open ⨾ keyword a_keyword.P ⨾ symbol name ⨾ some condition conds ⨾ the Arrow ⨾ any action actions ⨾ the Close
form (a_form.Make class sets) = the Open ⨾ keyword a_keyword.Make ⨾ symbol class ⨾ any (setting literal) sets ⨾ the Close
form (a_form.Strategy mea) = the Open ⨾ keyword a_keyword.Strategy ⨾ keyword (strategy_word mea) ⨾ the Close
form (a_form.Watch level) = the Open ⨾ keyword a_keyword.Watch ⨾ up_to 3 level ⨾ the Close

-- the tokens are the text of these forms, and lead from the names before to those after
abbrev pub IsText : Names → List Form → List Token → Names → Type 0
IsText before forms tokens after = any form forms before tokens after
