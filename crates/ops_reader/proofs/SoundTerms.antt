-- What a part of a value, of a setting with a value, and of an item has been spelled by.
use Rattle.std.proofs.Common.{ℕ, List, [], ◌∷◌, ◌++◌, Some, refl, IfSome}
use Rattle.ops_text.specs.Names.{Names}
use Rattle.ops_tokens.specs.declared.token.Keyword.TheVariants as a_keyword
use Rattle.ops_reader.specs.declared.form.FormExpr.{FormExpr}
use Rattle.ops_reader.specs.declared.form.FormTerm.{FormTerm}
use Rattle.ops_reader.specs.declared.form.FormTerm.TheVariants as a_term
use Rattle.ops_reader.specs.declared.form.FormItem.{FormItem}
use Rattle.ops_reader.specs.declared.form.FormItem.TheVariants as an_item
use Rattle.ops_reader.specs.declared.part.Step.TheVariants.{Part, Whole}
use Rattle.ops_reader.specs.declared.part.ExprPart.{ExprPart}
use Rattle.ops_reader.specs.declared.part.TermPart.{TermPart}
use Rattle.ops_reader.specs.declared.part.TermPart.TheVariants as of_term
use Rattle.ops_reader.specs.declared.part.TermSetPart.{TermSetPart}
use Rattle.ops_reader.specs.declared.part.TermSetPart.TheVariants as of_set
use Rattle.ops_reader.specs.declared.part.ItemPart.{ItemPart}
use Rattle.ops_reader.specs.declared.part.ItemPart.TheVariants as of_item
use Rattle.ops_reader.specs.FormTree.{form_tree}
use Rattle.ops_tokens.specs.Token.{Token, Open, Close, Caret, Variable, Plain}
use Rattle.ops_reader.specs.Grammar.{Phrase, nothing, never, ◌⨾◌, any, the, keyword, up_to, symbol, variable, literal, setting, expression, term, item}
use Rattle.ops_reader.specs.Taken.{symbol_of, variable_of, literal_of, number_up_to, around}
use Rattle.ops_reader.specs.ExpressionReading.{expression_after}
use Rattle.ops_reader.specs.TermReading.{TermSetsPart, value_of, term_begun, term_head, term_after, term_set_after, term_sets_after}
use Rattle.ops_reader.specs.ItemReading.{item_begun, item_head, item_after}
use Rattle.ops_reader.proofs.Phrases.{Extends, then_one, within, from_nothing, Extends-weaker, then_element, then_last}
use Rattle.ops_reader.proofs.SoundBasics.{IsSpelled, IsOneToken, grown_by, made_by, around_spelled, mapped_spelled, symbol_spelled, variable_spelled, literal_spelled, number_spelled, open_part, then_keyword}
use Rattle.ops_reader.proofs.SoundExpressions.{regrouped, begun_expression, whole_expression, expression_spelled}

value_spelled : (names : Names) (token : Token) → IsOneToken term names token (value_of names token)
value_spelled names (Variable name) =
    mapped_spelled variable term a_term.Name names (Variable name) (variable_of names (Variable name)) (λ n before tokens after h. h) (variable_spelled names (Variable name))
value_spelled names token =
    mapped_spelled literal term a_term.Con names token (literal_of names token) (λ v before tokens after h. h) (literal_spelled names token)

-- a part of a `compute` has been spelled by
abbrev pub begun_compute : ExprPart → Phrase
begun_compute part = the Open ⨾ keyword a_keyword.Compute ⨾ begun_expression part

-- the last bracket of a `compute`
compute_closes : (part : ExprPart) (e : FormExpr) (names : Names) (token : Token) (after : Names)
    → Extends (begun_expression part) names token after (whole_expression e) → Extends (begun_compute part) names token after (term (a_term.Compute e))
compute_closes part e names token after h =
    let x = the Open ⨾ keyword a_keyword.Compute in
    Extends-weaker (x ⨾ begun_expression part) (x ⨾ whole_expression e) (term (a_term.Compute e)) names token after
    (within x (begun_expression part) (whole_expression e) names token after h) (regrouped x (expression 32 (form_tree e)) (the Close))

-- the first token behind the word of a `compute` is still to come
compute_begins : (names : Names) (word : List ℕ) → Extends (the Open) names (Plain word (Some a_keyword.Compute)) names (the Open ⨾ keyword a_keyword.Compute ⨾ nothing)
compute_begins names word =
    open_part (the Open) (the Open ⨾ keyword a_keyword.Compute) names (Plain word (Some a_keyword.Compute)) names (then_keyword a_keyword.Compute names word)

abbrev pub begun_term : TermPart → Phrase
begun_term of_term.Nothing = nothing
begun_term of_term.Head = the Open
begun_term (of_term.Compute part) = begun_compute part

term_begun_spelled : (names : Names) (token : Token) → IfSome (term_begun names token) (IsSpelled begun_term term nothing names token)
term_begun_spelled names Open = from_nothing (the Open) names Open names (refl, refl)
term_begun_spelled names token =
    made_by begun_term term nothing names token (λ t. t) term (value_of names token) (value_spelled names token) (λ t after one. from_nothing (term t) names token after one)

term_head_spelled : (names : Names) (token : Token) → IfSome (term_head names token) (IsSpelled begun_term term (the Open) names token)
term_head_spelled names (Plain word (Some a_keyword.Compute)) = compute_begins names word
term_head_spelled names token = tt

pub term_spelled : (names : Names) (part : TermPart) (token : Token) → IfSome (term_after names part token) (IsSpelled begun_term term (begun_term part) names token)
term_spelled names of_term.Nothing token = term_begun_spelled names token
term_spelled names of_term.Head token = term_head_spelled names token
term_spelled names (of_term.Compute part) token =
    around_spelled begun_expression whole_expression begun_term term (λ p. Part (of_term.Compute p)) (λ e. Whole (a_term.Compute e)) (begun_expression part) (begun_compute part) names token
    (expression_after names part token)
    (λ p after h. within (the Open ⨾ keyword a_keyword.Compute) (begun_expression part) (begun_expression p) names token after h)
    (λ e after h. compute_closes part e names token after h)
    (expression_spelled names part token)

abbrev pub begun_term_set : TermSetPart → Phrase
begun_term_set of_set.Nothing = nothing
begun_term_set of_set.Caret = the Caret
begun_term_set (of_set.Attr attr part) = the Caret ⨾ symbol attr ⨾ begun_term part

term_set_spelled : (names : Names) (set : TermSetPart) (token : Token) → IfSome (term_set_after names set token) (IsSpelled begun_term_set (setting term) (begun_term_set set) names token)
term_set_spelled names of_set.Nothing Caret = from_nothing (the Caret) names Caret names (refl, refl)
term_set_spelled names of_set.Caret token =
    grown_by begun_term_set (setting term) (the Caret) names token (λ attr. of_set.Attr attr of_term.Nothing) symbol (symbol_of names token) (symbol_spelled names token)
    (λ attr after one. open_part (the Caret) (the Caret ⨾ symbol attr) names token after (then_one (the Caret) (symbol attr) names token after one))
term_set_spelled names (of_set.Attr attr part) token =
    around_spelled begun_term term begun_term_set (setting term) (λ t. Part (of_set.Attr attr t)) (λ t. Whole (attr, t)) (begun_term part) (begun_term_set (of_set.Attr attr part)) names token
    (term_after names part token)
    (λ p after h. within (the Caret ⨾ symbol attr) (begun_term part) (begun_term p) names token after h)
    (λ t after h. within (the Caret ⨾ symbol attr) (begun_term part) (term t) names token after h)
    (term_spelled names part token)
term_set_spelled names set token = tt

-- settings behind some phrase, and a part of one more
abbrev pub begun_term_sets : Phrase → TermSetsPart → Phrase
begun_term_sets x part = x ⨾ any (setting term) part.0 ⨾ begun_term_set part.1

-- settings behind some phrase, and the bracket behind them
abbrev pub whole_term_sets : Phrase → List (ℕ × FormTerm) → Phrase
whole_term_sets x sets = x ⨾ any (setting term) sets ⨾ the Close

one_more_set : (x : Phrase) (names : Names) (sets : List (ℕ × FormTerm)) (set : TermSetPart) (token : Token)
    → IfSome (term_set_after names set token) (IsSpelled begun_term_set (setting term) (begun_term_set set) names token)
    → IfSome (around (λ s. Part (sets, s)) (λ s. Part (sets ++ s ∷ [], of_set.Nothing)) (term_set_after names set token)) (IsSpelled (begun_term_sets x) (whole_term_sets x) (begun_term_sets x (sets, set)) names token)
one_more_set x names sets set token h =
    around_spelled begun_term_set (setting term) (begun_term_sets x) (whole_term_sets x) (λ s. Part (sets, s)) (λ s. Part (sets ++ s ∷ [], of_set.Nothing)) (begun_term_set set) (begun_term_sets x (sets, set)) names token
    (term_set_after names set token)
    (λ s after e. within (x ⨾ any (setting term) sets) (begun_term_set set) (begun_term_set s) names token after e)
    (λ s after e. then_element x (setting term) sets s (begun_term_set set) names token after e)
    h

pub term_sets_spelled : (x : Phrase) (names : Names) (part : TermSetsPart) (token : Token)
    → IfSome (term_sets_after names part token) (IsSpelled (begun_term_sets x) (whole_term_sets x) (begun_term_sets x part) names token)
term_sets_spelled x names (sets, of_set.Nothing) Close = then_last (x ⨾ any (setting term) sets) (the Close) names Close names (refl, refl)
term_sets_spelled x names (sets, set) token = one_more_set x names sets set token (term_set_spelled names set token)

-- an item without its last bracket
abbrev pub closing_item : FormItem → Phrase
closing_item (an_item.Put t) = never
closing_item an_item.Crlf = the Open ⨾ keyword a_keyword.Crlf
closing_item (an_item.Tabto column) = the Open ⨾ keyword a_keyword.Tabto ⨾ up_to 255 column
closing_item (an_item.Rjust width) = the Open ⨾ keyword a_keyword.Rjust ⨾ up_to 255 width

abbrev pub begun_item : ItemPart → Phrase
begun_item of_item.Nothing = nothing
begun_item of_item.Head = the Open
begun_item (of_item.Compute part) = begun_compute part
begun_item of_item.Tabto = the Open ⨾ keyword a_keyword.Tabto
begun_item of_item.Rjust = the Open ⨾ keyword a_keyword.Rjust
begun_item (of_item.Closing i) = closing_item i

item_begun_spelled : (names : Names) (token : Token) → IfSome (item_begun names token) (IsSpelled begun_item item nothing names token)
item_begun_spelled names Open = from_nothing (the Open) names Open names (refl, refl)
item_begun_spelled names token =
    made_by begun_item item nothing names token an_item.Put term (value_of names token) (value_spelled names token) (λ t after one. from_nothing (term t) names token after one)

item_head_spelled : (names : Names) (token : Token) → IfSome (item_head names token) (IsSpelled begun_item item (the Open) names token)
item_head_spelled names (Plain word (Some a_keyword.Compute)) = compute_begins names word
item_head_spelled names (Plain word (Some a_keyword.Crlf)) = then_keyword a_keyword.Crlf names word
item_head_spelled names (Plain word (Some a_keyword.Tabto)) = then_keyword a_keyword.Tabto names word
item_head_spelled names (Plain word (Some a_keyword.Rjust)) = then_keyword a_keyword.Rjust names word
item_head_spelled names token = tt

item_closes : (i : FormItem) (names : Names) → Extends (closing_item i) names Close names (item i)
item_closes (an_item.Put t) names = λ before tokens h. absurd h
item_closes an_item.Crlf names = then_one (closing_item an_item.Crlf) (the Close) names Close names (refl, refl)
item_closes (an_item.Tabto column) names = then_one (closing_item (an_item.Tabto column)) (the Close) names Close names (refl, refl)
item_closes (an_item.Rjust width) names = then_one (closing_item (an_item.Rjust width)) (the Close) names Close names (refl, refl)

pub item_spelled : (names : Names) (part : ItemPart) (token : Token) → IfSome (item_after names part token) (IsSpelled begun_item item (begun_item part) names token)
item_spelled names of_item.Nothing token = item_begun_spelled names token
item_spelled names of_item.Head token = item_head_spelled names token
item_spelled names (of_item.Compute part) token =
    around_spelled begun_expression whole_expression begun_item item (λ p. Part (of_item.Compute p)) (λ e. Whole (an_item.Put (a_term.Compute e))) (begun_expression part) (begun_compute part) names token
    (expression_after names part token)
    (λ p after h. within (the Open ⨾ keyword a_keyword.Compute) (begun_expression part) (begun_expression p) names token after h)
    (λ e after h. compute_closes part e names token after h)
    (expression_spelled names part token)
item_spelled names of_item.Tabto token =
    grown_by begun_item item (begun_item of_item.Tabto) names token (λ n. of_item.Closing (an_item.Tabto n)) (up_to 255) (number_up_to 255 names token) (number_spelled 255 names token)
    (λ n after one. then_one (begun_item of_item.Tabto) (up_to 255 n) names token after one)
item_spelled names of_item.Rjust token =
    grown_by begun_item item (begun_item of_item.Rjust) names token (λ n. of_item.Closing (an_item.Rjust n)) (up_to 255) (number_up_to 255 names token) (number_spelled 255 names token)
    (λ n after one. then_one (begun_item of_item.Rjust) (up_to 255 n) names token after one)
item_spelled names (of_item.Closing i) Close = item_closes i names
item_spelled names part token = tt
