-- A part of a value, of a setting with a value, and of an item has an end.
use Rattle.std.proofs.Common.{◌≡◌, ℕ, pos, List, [], ◌∷◌, ◌++◌, Some, refl}
use Rattle.ops_text.specs.Names.{Names, number_of, with_name}
use Rattle.rule_base.specs.declared.value.Value.TheVariants as a_value
use Rattle.ops_tokens.specs.declared.token.Keyword.TheVariants as a_keyword
use Rattle.ops_reader.specs.declared.form.FormTerm.{FormTerm}
use Rattle.ops_reader.specs.declared.form.FormTerm.TheVariants as a_term
use Rattle.ops_reader.specs.declared.form.FormItem.{FormItem}
use Rattle.ops_reader.specs.declared.form.FormItem.TheVariants as an_item
use Rattle.ops_reader.specs.declared.part.Step.TheVariants.{Part, Whole}
use Rattle.ops_reader.specs.declared.part.ExprPart.{ExprPart}
use Rattle.ops_reader.specs.declared.part.TermPart.{TermPart}
use Rattle.ops_reader.specs.declared.part.TermPart.TheVariants as of_term
use Rattle.ops_reader.specs.declared.part.TermSetPart.{TermSetPart}
use Rattle.ops_reader.specs.declared.part.TermSetPart.TheVariants as of_set
use Rattle.ops_reader.specs.declared.part.ItemPart.{ItemPart}
use Rattle.ops_reader.specs.declared.part.ItemPart.TheVariants as of_item
use Rattle.ops_tokens.specs.Token.{Token, Close, Caret, Integer, Plain}
use Rattle.ops_reader.specs.ExpressionReading.{expression_after}
use Rattle.ops_reader.specs.TermReading.{TermSetsPart, no_expression, term_after, term_set_after, term_sets_after}
use Rattle.ops_reader.specs.ItemReading.{item_after}
use Rattle.ops_reader.specs.Reading.{Read}
use Rattle.ops_reader.proofs.CompleteBasics.{IsWithin, within_part}
use Rattle.ops_reader.proofs.CompleteTerms.{expression_in_term, term_in_set, with_set, set_in_sets, expression_in_item}
use Rattle.ops_reader.proofs.ViableBasics.{word, EndsBy, ends_around}
use Rattle.ops_reader.proofs.ViableExpressions.{ends_by_token, ends_at_token, rest_of_expression, expression_ends}

-- the shortest value
abbrev pub zero_value : Token
zero_value = Integer (pos 0)

abbrev zero_term : FormTerm
zero_term = a_term.Con (a_value.Int (pos 0))

abbrev compute_word : Token
compute_word = Plain [] (Some a_keyword.Compute)

abbrev crlf_word : Token
crlf_word = Plain [] (Some a_keyword.Crlf)

-- the shortest ends
abbrev pub rest_of_term : TermPart → List Token
rest_of_term of_term.Nothing = zero_value ∷ []
rest_of_term of_term.Head = compute_word ∷ rest_of_expression no_expression
rest_of_term (of_term.Compute part) = rest_of_expression part

-- an end of one thing is an end of what is made of it
pub ends_as : {V W : Type 0} (f : V → W) (from : Read) (to : W → Names → Read) (tokens : List Token) → EndsBy from (λ v. to (f v)) tokens → EndsBy from to tokens
ends_as f from to tokens end = record { whole = f end.whole; names = end.names; ends = end.ends }

compute_ends : (from : TermPart → Names → Read) (to : FormTerm → Names → Read) → IsWithin term_after from to
    → (part : ExprPart) (names : Names) → EndsBy (from (of_term.Compute part) names) to (rest_of_expression part)
compute_ends from to there part names =
    ends_as a_term.Compute (from (of_term.Compute part) names) to (rest_of_expression part)
    (expression_ends (λ p. from (of_term.Compute p)) (λ e. to (a_term.Compute e))
    (within_part expression_after term_after of_term.Compute (λ e. Whole (a_term.Compute e)) from to there expression_in_term) part names)

pub term_ends : (from : TermPart → Names → Read) (to : FormTerm → Names → Read) → IsWithin term_after from to
    → (part : TermPart) (names : Names) → EndsBy (from part names) to (rest_of_term part)
term_ends from to there of_term.Nothing names =
    ends_at_token zero_value (from of_term.Nothing names) to zero_term names (there names of_term.Nothing zero_value (names, Whole zero_term) refl)
term_ends from to there of_term.Head names =
    ends_by_token compute_word (from of_term.Head names) (from (of_term.Compute no_expression) names) to (rest_of_expression no_expression)
    (there names of_term.Head compute_word (names, Part (of_term.Compute no_expression)) refl)
    (compute_ends from to there no_expression names)
term_ends from to there (of_term.Compute part) names = compute_ends from to there part names

abbrev rest_of_term_set : TermSetPart → List Token
rest_of_term_set of_set.Nothing = Caret ∷ word ∷ zero_value ∷ []
rest_of_term_set of_set.Caret = word ∷ zero_value ∷ []
rest_of_term_set (of_set.Attr attr part) = rest_of_term part

attr_ends : (from : TermSetPart → Names → Read) (to : ℕ × FormTerm → Names → Read) → IsWithin term_set_after from to
    → (attr : ℕ) (part : TermPart) (names : Names) → EndsBy (from (of_set.Attr attr part) names) to (rest_of_term part)
attr_ends from to there attr part names =
    ends_as (λ t. (attr, t)) (from (of_set.Attr attr part) names) to (rest_of_term part)
    (term_ends (λ p. from (of_set.Attr attr p)) (λ t. to (attr, t))
    (within_part term_after term_set_after (of_set.Attr attr) (λ t. Whole (attr, t)) from to there (term_in_set attr)) part names)

caret_ends : (from : TermSetPart → Names → Read) (to : ℕ × FormTerm → Names → Read) → IsWithin term_set_after from to
    → (names : Names) → EndsBy (from of_set.Caret names) to (word ∷ zero_value ∷ [])
caret_ends from to there names =
    let n = number_of names [] in
    let more = with_name names [] in
    ends_by_token word (from of_set.Caret names) (from (of_set.Attr n of_term.Nothing) more) to (zero_value ∷ [])
    (there names of_set.Caret word (more, Part (of_set.Attr n of_term.Nothing)) refl)
    (attr_ends from to there n of_term.Nothing more)

term_set_ends : (from : TermSetPart → Names → Read) (to : ℕ × FormTerm → Names → Read) → IsWithin term_set_after from to
    → (set : TermSetPart) (names : Names) → EndsBy (from set names) to (rest_of_term_set set)
term_set_ends from to there of_set.Nothing names =
    ends_by_token Caret (from of_set.Nothing names) (from of_set.Caret names) to (word ∷ zero_value ∷ [])
    (there names of_set.Nothing Caret (names, Part of_set.Caret) refl)
    (caret_ends from to there names)
term_set_ends from to there of_set.Caret names = caret_ends from to there names
term_set_ends from to there (of_set.Attr attr part) names = attr_ends from to there attr part names

abbrev pub rest_of_term_sets : TermSetPart → List Token
rest_of_term_sets of_set.Nothing = Close ∷ []
rest_of_term_sets set = rest_of_term_set set ++ Close ∷ []

set_list_ends : (from : TermSetsPart → Names → Read) (to : List (ℕ × FormTerm) → Names → Read) → IsWithin term_sets_after from to
    → (sets : List (ℕ × FormTerm)) (names : Names) → EndsBy (from (sets, of_set.Nothing) names) to (Close ∷ [])
set_list_ends from to there sets names =
    ends_at_token Close (from (sets, of_set.Nothing) names) to sets names (there names (sets, of_set.Nothing) Close (names, Whole sets) refl)

open_set_ends : (from : TermSetsPart → Names → Read) (to : List (ℕ × FormTerm) → Names → Read) → IsWithin term_sets_after from to
    → (sets : List (ℕ × FormTerm)) (set : TermSetPart) (names : Names) → EndsBy (from (sets, set) names) to (rest_of_term_set set ++ Close ∷ [])
open_set_ends from to there sets set names =
    ends_around (from (sets, set) names) (λ s. from (sets ++ s ∷ [], of_set.Nothing)) to (rest_of_term_set set) (Close ∷ [])
    (term_set_ends (λ s. from (sets, s)) (λ s. from (sets ++ s ∷ [], of_set.Nothing))
    (within_part term_set_after term_sets_after (λ s. (sets, s)) (with_set sets) from to there (set_in_sets sets)) set names)
    (λ s more. set_list_ends from to there (sets ++ s ∷ []) more)

pub term_sets_end : (from : TermSetsPart → Names → Read) (to : List (ℕ × FormTerm) → Names → Read) → IsWithin term_sets_after from to
    → (sets : List (ℕ × FormTerm)) (set : TermSetPart) (names : Names) → EndsBy (from (sets, set) names) to (rest_of_term_sets set)
term_sets_end from to there sets of_set.Nothing names = set_list_ends from to there sets names
term_sets_end from to there sets of_set.Caret names = open_set_ends from to there sets of_set.Caret names
term_sets_end from to there sets (of_set.Attr attr part) names = open_set_ends from to there sets (of_set.Attr attr part) names

abbrev pub rest_of_item : ItemPart → List Token
rest_of_item of_item.Nothing = zero_value ∷ []
rest_of_item of_item.Head = crlf_word ∷ Close ∷ []
rest_of_item (of_item.Compute part) = rest_of_expression part
rest_of_item of_item.Tabto = zero_value ∷ Close ∷ []
rest_of_item of_item.Rjust = zero_value ∷ Close ∷ []
rest_of_item (of_item.Closing i) = Close ∷ []

item_closing_ends : (from : ItemPart → Names → Read) (to : FormItem → Names → Read) → IsWithin item_after from to
    → (i : FormItem) (names : Names) → EndsBy (from (of_item.Closing i) names) to (Close ∷ [])
item_closing_ends from to there i names =
    ends_at_token Close (from (of_item.Closing i) names) to i names (there names (of_item.Closing i) Close (names, Whole i) refl)

-- one token that leads to the last bracket of an item
item_token_ends : (from : ItemPart → Names → Read) (to : FormItem → Names → Read) → IsWithin item_after from to
    → (token : Token) (part : ItemPart) (i : FormItem) (names : Names) → item_after names part token ≡ Some (names, Part (of_item.Closing i))
    → EndsBy (from part names) to (token ∷ Close ∷ [])
item_token_ends from to there token part i names e =
    ends_by_token token (from part names) (from (of_item.Closing i) names) to (Close ∷ []) (there names part token (names, Part (of_item.Closing i)) e) (item_closing_ends from to there i names)

pub item_ends : (from : ItemPart → Names → Read) (to : FormItem → Names → Read) → IsWithin item_after from to
    → (part : ItemPart) (names : Names) → EndsBy (from part names) to (rest_of_item part)
item_ends from to there of_item.Nothing names =
    ends_at_token zero_value (from of_item.Nothing names) to (an_item.Put zero_term) names (there names of_item.Nothing zero_value (names, Whole (an_item.Put zero_term)) refl)
item_ends from to there of_item.Head names = item_token_ends from to there crlf_word of_item.Head an_item.Crlf names refl
item_ends from to there (of_item.Compute part) names =
    ends_as (λ e. an_item.Put (a_term.Compute e)) (from (of_item.Compute part) names) to (rest_of_expression part)
    (expression_ends (λ p. from (of_item.Compute p)) (λ e. to (an_item.Put (a_term.Compute e)))
    (within_part expression_after item_after of_item.Compute (λ e. Whole (an_item.Put (a_term.Compute e))) from to there expression_in_item) part names)
item_ends from to there of_item.Tabto names = item_token_ends from to there zero_value of_item.Tabto (an_item.Tabto 0) names refl
item_ends from to there of_item.Rjust names = item_token_ends from to there zero_value of_item.Rjust (an_item.Rjust 0) names refl
item_ends from to there (of_item.Closing i) names = item_closing_ends from to there i names
