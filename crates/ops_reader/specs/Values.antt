-- The grammar of symbols, constants, variables, and what an attribute is set to or tested by.
use Rattle.std.specs.Prelude.{ℕ}
use Rattle.rule_base.specs.declared.value.Value.{Value}
use Rattle.rule_base.specs.declared.value.Value.TheVariants as a_value
use Rattle.ops_reader.specs.declared.form.FormArg.{FormArg}
use Rattle.ops_reader.specs.declared.form.FormArg.TheVariants as an_argument
use Rattle.ops_tokens.specs.Token.{Caret, Integer}
use Rattle.ops_tokens.specs.Naming.{symbol_name, constant_name, literal_name, variable_name}
use Rattle.ops_reader.specs.Phrase.{Phrase, ◌⨾◌, the, naming}

-- a symbol, by its number
abbrev pub symbol : ℕ → Phrase
symbol = naming symbol_name

-- a variable, by the number of its name
abbrev pub variable : ℕ → Phrase
variable = naming variable_name

-- an integer, or a symbol, which may be the minus
abbrev pub constant : Value → Phrase
constant (a_value.Int z) = the (Integer z)
constant (a_value.Sym n) = naming constant_name n

-- a constant, or a sign of the grammar as the symbol of its bytes
abbrev pub literal : Value → Phrase
literal (a_value.Int z) = the (Integer z)
literal (a_value.Sym n) = naming literal_name n

-- a constant or a variable
abbrev pub argument : FormArg → Phrase
argument (an_argument.Con v) = constant v
argument (an_argument.Name n) = variable n

-- `^`, an attribute, and a phrase for what it is set to or tested by
abbrev pub setting : {A : Type 0} → (A → Phrase) → ℕ × A → Phrase
setting phrase set = the Caret ⨾ symbol set.0 ⨾ phrase set.1
