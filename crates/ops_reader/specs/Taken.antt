-- What one token is where a symbol, a variable, a constant, a literal, an argument or a number may stand.
use Rattle.std.specs.Prelude.{ℕ, pos, List, Option, Some, None, nat_le, if◌then◌else◌}
use Rattle.std.specs.Option.{option_map}
use Rattle.ops_text.specs.Names.{Names, number_of, with_name}
use Rattle.rule_base.specs.declared.value.Value.{Value}
use Rattle.rule_base.specs.declared.value.Value.TheVariants as a_value
use Rattle.ops_reader.specs.declared.form.FormArg.{FormArg}
use Rattle.ops_reader.specs.declared.form.FormArg.TheVariants as an_argument
use Rattle.ops_reader.specs.declared.part.Step.{Step}
use Rattle.ops_reader.specs.declared.part.Step.TheVariants.{Part, Whole}
use Rattle.ops_reader.specs.declared.part.SetPart.{SetPart}
use Rattle.ops_reader.specs.declared.part.SetPart.TheVariants as of_set
use Rattle.ops_tokens.specs.Token.{Token, Caret, Variable, Integer}
use Rattle.ops_tokens.specs.Naming.{symbol_name, constant_name, literal_name, variable_name}

-- what a token gives, with the names after it, or none where it can't stand there
abbrev pub Taken : Type 0 → Type 0
Taken A = Option (Names × A)

-- what stands for a name, which gets a number
abbrev pub named_of : (Token → Option (List ℕ)) → Names → Token → Taken ℕ
named_of name_of names token = option_map (λ name. (with_name names name, number_of names name)) (name_of token)

-- a symbol
abbrev pub symbol_of : Names → Token → Taken ℕ
symbol_of names token = named_of symbol_name names token

-- a variable
abbrev pub variable_of : Names → Token → Taken ℕ
variable_of names token = named_of variable_name names token

-- a constant: an integer or a symbol
abbrev pub constant_of : Names → Token → Taken Value
constant_of names (Integer z) = Some (names, a_value.Int z)
constant_of names token = option_map (λ s. (s.0, a_value.Sym s.1)) (named_of constant_name names token)

-- a literal: a constant, or a sign as a symbol
abbrev pub literal_of : Names → Token → Taken Value
literal_of names (Integer z) = Some (names, a_value.Int z)
literal_of names token = option_map (λ s. (s.0, a_value.Sym s.1)) (named_of literal_name names token)

-- an argument: a variable or a constant
abbrev pub argument_of : Names → Token → Taken FormArg
argument_of names (Variable name) = option_map (λ v. (v.0, an_argument.Name v.1)) (variable_of names (Variable name))
argument_of names token = option_map (λ c. (c.0, an_argument.Con c.1)) (constant_of names token)

-- the number, where it is at most so large
abbrev pub at_most : ℕ → Names → ℕ → Taken ℕ
at_most most names n = if nat_le n most then Some (names, n) else None

-- an integer from 0 to this one
abbrev pub number_up_to : ℕ → Names → Token → Taken ℕ
number_up_to most names (Integer (pos n)) = at_most most names n
number_up_to most names token = None

-- what a token gives, as a longer part
abbrev pub grown : {A P V : Type 0} → (A → P) → Taken A → Taken (Step P V)
grown part taken = option_map (λ x. (x.0, Part (part x.1))) taken

-- what a token gives, as the whole
abbrev pub made : {A P V : Type 0} → (A → V) → Taken A → Taken (Step P V)
made whole taken = option_map (λ x. (x.0, Whole (whole x.1))) taken

-- what a longer part is where a part within it is longer, or whole
abbrev pub step_around : {P V Q W : Type 0} → (P → Step Q W) → (V → Step Q W) → Step P V → Step Q W
step_around longer whole (Part p) = longer p
step_around longer whole (Whole v) = whole v

-- what a token gives within a longer part
abbrev pub around : {P V Q W : Type 0} → (P → Step Q W) → (V → Step Q W) → Taken (Step P V) → Taken (Step Q W)
around longer whole taken = option_map (λ x. (x.0, step_around longer whole x.1)) taken

-- a part of a setting: `^`, and then the attribute
abbrev pub set_after : Names → SetPart → Token → Taken SetPart
set_after names of_set.Nothing Caret = Some (names, of_set.Caret)
set_after names of_set.Caret token = option_map (λ s. (s.0, of_set.Attr s.1)) (symbol_of names token)
set_after names set token = None
