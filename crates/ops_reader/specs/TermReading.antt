-- What one more token makes of a part of a value in an action, or of a setting with such a value.
use Rattle.std.specs.Prelude.{ℕ, List, [], ◌∷◌, ◌++◌, Some, None}
use Rattle.std.specs.Option.{option_map}
use Rattle.ops_text.specs.Names.{Names}
use Rattle.ops_tokens.specs.declared.token.Keyword.TheVariants as a_keyword
use Rattle.ops_reader.specs.declared.form.FormTerm.{FormTerm}
use Rattle.ops_reader.specs.declared.form.FormTerm.TheVariants as a_term
use Rattle.ops_reader.specs.declared.part.Step.{Step}
use Rattle.ops_reader.specs.declared.part.Step.TheVariants.{Part, Whole}
use Rattle.ops_reader.specs.declared.part.ExprPart.{ExprPart}
use Rattle.ops_reader.specs.declared.part.Before.TheVariants as of_before
use Rattle.ops_reader.specs.declared.part.TermPart.{TermPart}
use Rattle.ops_reader.specs.declared.part.TermPart.TheVariants as of_term
use Rattle.ops_reader.specs.declared.part.TermSetPart.{TermSetPart}
use Rattle.ops_reader.specs.declared.part.TermSetPart.TheVariants as of_set
use Rattle.ops_tokens.specs.Token.{Token, Open, Close, Caret, Variable, Plain}
use Rattle.ops_reader.specs.Taken.{Taken, symbol_of, variable_of, literal_of, grown, made, around}
use Rattle.ops_reader.specs.ExpressionReading.{ahead, expression_after}

-- a value of one token: a variable or a literal
abbrev pub value_of : Names → Token → Taken FormTerm
value_of names (Variable name) = option_map (λ v. (v.0, a_term.Name v.1)) (variable_of names (Variable name))
value_of names token = option_map (λ l. (l.0, a_term.Con l.1)) (literal_of names token)

-- an expression that has not begun
abbrev pub no_expression : ExprPart
no_expression = ahead [] of_before.Nothing

-- the first token of a value
abbrev pub term_begun : Names → Token → Taken (Step TermPart FormTerm)
term_begun names Open = Some (names, Part of_term.Head)
term_begun names token = made (λ t. t) (value_of names token)

-- the word behind the bracket of a value, which gets no number
abbrev pub term_head : Names → Token → Taken (Step TermPart FormTerm)
term_head names (Plain word (Some a_keyword.Compute)) = Some (names, Part (of_term.Compute no_expression))
term_head names token = None

-- any part of a value
abbrev pub term_after : Names → TermPart → Token → Taken (Step TermPart FormTerm)
term_after names of_term.Nothing token = term_begun names token
term_after names of_term.Head token = term_head names token
term_after names (of_term.Compute part) token =
    around (λ p. Part (of_term.Compute p)) (λ e. Whole (a_term.Compute e)) (expression_after names part token)

-- any part of a setting
abbrev pub term_set_after : Names → TermSetPart → Token → Taken (Step TermSetPart (ℕ × FormTerm))
term_set_after names of_set.Nothing Caret = Some (names, Part of_set.Caret)
term_set_after names of_set.Caret token = grown (λ attr. of_set.Attr attr of_term.Nothing) (symbol_of names token)
term_set_after names (of_set.Attr attr term) token =
    around (λ t. Part (of_set.Attr attr t)) (λ t. Whole (attr, t)) (term_after names term token)
term_set_after names part token = None

-- settings that are whole, and a part of the next one
abbrev pub TermSetsPart : Type 0
TermSetsPart = List (ℕ × FormTerm) × TermSetPart

-- the settings of an action, and its end
abbrev pub term_sets_after : Names → TermSetsPart → Token → Taken (Step TermSetsPart (List (ℕ × FormTerm)))
term_sets_after names (sets, of_set.Nothing) Close = Some (names, Whole sets)
term_sets_after names (sets, set) token =
    around (λ s. Part (sets, s)) (λ s. Part (sets ++ s ∷ [], of_set.Nothing)) (term_set_after names set token)
