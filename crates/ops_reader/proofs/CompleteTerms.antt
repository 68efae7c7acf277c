-- A value, a setting with a value, and an item lead from what stands before them to what is read behind them.
use Rattle.std.proofs.Common.{◌≡◌, ℕ, List, [], ◌∷◌, ◌++◌, Some, refl, ap}
use Rattle.std.specs.Option.{option_map}
use Rattle.ops_text.specs.Names.{Names}
use Rattle.rule_base.specs.declared.value.Value.{Value}
use Rattle.ops_tokens.specs.declared.token.Keyword.TheVariants as a_keyword
use Rattle.ops_reader.specs.declared.form.FormExpr.{FormExpr}
use Rattle.ops_reader.specs.declared.form.FormTerm.{FormTerm}
use Rattle.ops_reader.specs.declared.form.FormTerm.TheVariants as a_term
use Rattle.ops_reader.specs.declared.form.FormItem.{FormItem}
use Rattle.ops_reader.specs.declared.form.FormItem.TheVariants as an_item
use Rattle.ops_reader.specs.declared.part.Step.{Step}
use Rattle.ops_reader.specs.declared.part.Step.TheVariants.{Part, Whole}
use Rattle.ops_reader.specs.declared.part.ExprPart.{ExprPart}
use Rattle.ops_reader.specs.declared.part.TermPart.{TermPart}
use Rattle.ops_reader.specs.declared.part.TermPart.TheVariants as of_term
use Rattle.ops_reader.specs.declared.part.TermSetPart.{TermSetPart}
use Rattle.ops_reader.specs.declared.part.TermSetPart.TheVariants as of_set
use Rattle.ops_reader.specs.declared.part.ItemPart.{ItemPart}
use Rattle.ops_reader.specs.declared.part.ItemPart.TheVariants as of_item
use Rattle.ops_reader.specs.FormTree.{form_tree}
use Rattle.ops_tokens.specs.Token.{Token, Open, Close, Caret, Variable, Plain}
use Rattle.ops_reader.specs.Grammar.{Phrase, never, ◌⨾◌, any, the, keyword, up_to, symbol, variable, literal, setting, expression, term, item}
use Rattle.ops_reader.specs.Taken.{symbol_of, variable_of, literal_of, number_up_to, grown, made, around}
use Rattle.ops_reader.specs.ExpressionReading.{expression_after}
use Rattle.ops_reader.specs.TermReading.{TermSetsPart, value_of, no_expression, term_after, term_set_after, term_sets_after}
use Rattle.ops_reader.specs.ItemReading.{item_after}
use Rattle.ops_reader.specs.Reading.{Read}
use Rattle.ops_reader.proofs.CompleteBasics.{Leads, leads_then, leads_any, leads_the, leads_keyword, leads_taken, IsTaken, symbol_taken, variable_taken, literal_taken, number_taken, IsWithin, IsAround, within_part}
use Rattle.ops_reader.proofs.CompleteExpressions.{read_to, leads_expression, leads_expression_end}

-- a value of one token
abbrev pub value : FormTerm → Phrase
value (a_term.Con v) = literal v
value (a_term.Name n) = variable n
value (a_term.Compute e) = never

value_literal : (v : Value) (names : Names) (token : Token) (after : Names) → literal_of names token ≡ Some (after, v) → value_of names token ≡ Some (after, a_term.Con v)
value_literal v names (Variable name) after e = absurd (cc)
value_literal v names token after e = ap (option_map (λ l. (l.0, a_term.Con l.1))) e

value_variable : (n : ℕ) (names : Names) (token : Token) (after : Names) → variable_of names token ≡ Some (after, n) → value_of names token ≡ Some (after, a_term.Name n)
value_variable n names (Variable name) after e = ap (option_map (λ v. (v.0, a_term.Name v.1))) e
value_variable n names token after e = absurd (cc)

pub value_taken : IsTaken value_of value
value_taken (a_term.Con v) before tokens after h = let t = literal_taken v before tokens after h in (t.0, t.1, value_literal v before t.0 after t.2)
value_taken (a_term.Name n) before tokens after h = let t = variable_taken n before tokens after h in (t.0, t.1, value_variable n before t.0 after t.2)
value_taken (a_term.Compute e) before tokens after h = absurd h

-- the whole of a `compute`, from its first bracket
leads_compute : (from : ExprPart → Names → Read) (to : FormExpr → Names → Read) → IsWithin expression_after from to
    → (begin head : Names → Read) → Leads (the Open) begin head → Leads (keyword a_keyword.Compute) head (from no_expression)
    → (e : FormExpr) → Leads (term (a_term.Compute e)) begin (to e)
leads_compute from to there begin head opening word e =
    leads_then (the Open ⨾ keyword a_keyword.Compute ⨾ expression 32 (form_tree e)) (the Close) begin (from (read_to [] e)) (to e)
    (leads_then (the Open ⨾ keyword a_keyword.Compute) (expression 32 (form_tree e)) begin (from no_expression) (from (read_to [] e))
    (leads_then (the Open) (keyword a_keyword.Compute) begin head (from no_expression) opening word)
    (leads_expression from to there e))
    (leads_expression_end from to there e)

pub expression_in_term : IsAround expression_after term_after of_term.Compute (λ e. Whole (a_term.Compute e))
expression_in_term names part token x e = ap (around (λ p. Part (of_term.Compute p)) (λ e. Whole (a_term.Compute e))) e

term_begins : (t : FormTerm) (names : Names) (token : Token) (after : Names) → value_of names token ≡ Some (after, t) → term_after names of_term.Nothing token ≡ Some (after, Whole t)
term_begins t names Open after e = absurd (cc)
term_begins t names token after e = ap (made (λ t. t)) e

-- a value of one token as the whole
leads_value : (from : TermPart → Names → Read) (to : FormTerm → Names → Read) → IsWithin term_after from to
    → (t : FormTerm) → Leads (value t) (from of_term.Nothing) (to t)
leads_value from to there t =
    leads_taken value_of value value_taken t (from of_term.Nothing) (to t)
    (λ names token after e. there names of_term.Nothing token (after, Whole t) (term_begins t names token after e))

pub leads_term : (from : TermPart → Names → Read) (to : FormTerm → Names → Read) → IsWithin term_after from to
    → (t : FormTerm) → Leads (term t) (from of_term.Nothing) (to t)
leads_term from to there (a_term.Con v) = leads_value from to there (a_term.Con v)
leads_term from to there (a_term.Name n) = leads_value from to there (a_term.Name n)
leads_term from to there (a_term.Compute e) =
    leads_compute (λ p. from (of_term.Compute p)) (λ e. to (a_term.Compute e))
    (within_part expression_after term_after of_term.Compute (λ e. Whole (a_term.Compute e)) from to there expression_in_term)
    (from of_term.Nothing) (from of_term.Head)
    (leads_the Open (from of_term.Nothing) (from of_term.Head) (λ names. there names of_term.Nothing Open (names, Part of_term.Head) refl))
    (leads_keyword a_keyword.Compute (from of_term.Head) (from (of_term.Compute no_expression))
    (λ names word. there names of_term.Head (Plain word (Some a_keyword.Compute)) (names, Part (of_term.Compute no_expression)) refl))
    e

pub term_in_set : (attr : ℕ) → IsAround term_after term_set_after (of_set.Attr attr) (λ t. Whole (attr, t))
term_in_set attr names part token x e = ap (around (λ p. Part (of_set.Attr attr p)) (λ t. Whole (attr, t))) e

leads_term_set : (from : TermSetPart → Names → Read) (to : ℕ × FormTerm → Names → Read) → IsWithin term_set_after from to
    → (set : ℕ × FormTerm) → Leads (setting term set) (from of_set.Nothing) (to set)
leads_term_set from to there (attr, t) =
    leads_then (the Caret ⨾ symbol attr) (term t) (from of_set.Nothing) (from (of_set.Attr attr of_term.Nothing)) (to (attr, t))
    (leads_then (the Caret) (symbol attr) (from of_set.Nothing) (from of_set.Caret) (from (of_set.Attr attr of_term.Nothing))
    (leads_the Caret (from of_set.Nothing) (from of_set.Caret) (λ names. there names of_set.Nothing Caret (names, Part of_set.Caret) refl))
    (leads_taken symbol_of symbol symbol_taken attr (from of_set.Caret) (from (of_set.Attr attr of_term.Nothing))
    (λ names token after e. there names of_set.Caret token (after, Part (of_set.Attr attr of_term.Nothing)) (ap (grown (λ a. of_set.Attr a of_term.Nothing)) e))))
    (leads_term (λ p. from (of_set.Attr attr p)) (λ t. to (attr, t))
    (within_part term_after term_set_after (of_set.Attr attr) (λ t. Whole (attr, t)) from to there (term_in_set attr)) t)

-- one more setting
abbrev pub with_set : List (ℕ × FormTerm) → ℕ × FormTerm → Step TermSetsPart (List (ℕ × FormTerm))
with_set sets set = Part (sets ++ set ∷ [], of_set.Nothing)

pub set_in_sets : (sets : List (ℕ × FormTerm)) → IsAround term_set_after term_sets_after (λ s. (sets, s)) (with_set sets)
set_in_sets sets names of_set.Nothing Close x e = absurd (cc)
set_in_sets sets names set token x e = ap (around (λ s. Part (sets, s)) (with_set sets)) e

pub leads_term_sets : (from : TermSetsPart → Names → Read) (to : List (ℕ × FormTerm) → Names → Read) → IsWithin term_sets_after from to
    → (sets : List (ℕ × FormTerm)) → Leads (any (setting term) sets) (from ([], of_set.Nothing)) (from (sets, of_set.Nothing))
leads_term_sets from to there sets =
    leads_any (setting term) (λ l. from (l, of_set.Nothing))
    (λ l set. leads_term_set (λ s. from (l, s)) (λ s. from (l ++ s ∷ [], of_set.Nothing))
    (within_part term_set_after term_sets_after (λ s. (l, s)) (with_set l) from to there (set_in_sets l)) set)
    [] sets

pub leads_term_sets_end : (from : TermSetsPart → Names → Read) (to : List (ℕ × FormTerm) → Names → Read) → IsWithin term_sets_after from to
    → (sets : List (ℕ × FormTerm)) → Leads (the Close) (from (sets, of_set.Nothing)) (to sets)
leads_term_sets_end from to there sets =
    leads_the Close (from (sets, of_set.Nothing)) (to sets) (λ names. there names (sets, of_set.Nothing) Close (names, Whole sets) refl)

pub expression_in_item : IsAround expression_after item_after of_item.Compute (λ e. Whole (an_item.Put (a_term.Compute e)))
expression_in_item names part token x e = ap (around (λ p. Part (of_item.Compute p)) (λ e. Whole (an_item.Put (a_term.Compute e)))) e

item_begins : (t : FormTerm) (names : Names) (token : Token) (after : Names) → value_of names token ≡ Some (after, t) → item_after names of_item.Nothing token ≡ Some (after, Whole (an_item.Put t))
item_begins t names Open after e = absurd (cc)
item_begins t names token after e = ap (made an_item.Put) e

leads_put : (from : ItemPart → Names → Read) (to : FormItem → Names → Read) → IsWithin item_after from to
    → (t : FormTerm) → Leads (value t) (from of_item.Nothing) (to (an_item.Put t))
leads_put from to there t =
    leads_taken value_of value value_taken t (from of_item.Nothing) (to (an_item.Put t))
    (λ names token after e. there names of_item.Nothing token (after, Whole (an_item.Put t)) (item_begins t names token after e))

leads_item_open : (from : ItemPart → Names → Read) (to : FormItem → Names → Read) → IsWithin item_after from to → Leads (the Open) (from of_item.Nothing) (from of_item.Head)
leads_item_open from to there = leads_the Open (from of_item.Nothing) (from of_item.Head) (λ names. there names of_item.Nothing Open (names, Part of_item.Head) refl)

leads_item_close : (from : ItemPart → Names → Read) (to : FormItem → Names → Read) → IsWithin item_after from to → (i : FormItem) → Leads (the Close) (from (of_item.Closing i)) (to i)
leads_item_close from to there i = leads_the Close (from (of_item.Closing i)) (to i) (λ names. there names (of_item.Closing i) Close (names, Whole i) refl)

pub leads_item : (from : ItemPart → Names → Read) (to : FormItem → Names → Read) → IsWithin item_after from to
    → (i : FormItem) → Leads (item i) (from of_item.Nothing) (to i)
leads_item from to there (an_item.Put (a_term.Con v)) = leads_put from to there (a_term.Con v)
leads_item from to there (an_item.Put (a_term.Name n)) = leads_put from to there (a_term.Name n)
leads_item from to there (an_item.Put (a_term.Compute e)) =
    leads_compute (λ p. from (of_item.Compute p)) (λ e. to (an_item.Put (a_term.Compute e)))
    (within_part expression_after item_after of_item.Compute (λ e. Whole (an_item.Put (a_term.Compute e))) from to there expression_in_item)
    (from of_item.Nothing) (from of_item.Head) (leads_item_open from to there)
    (leads_keyword a_keyword.Compute (from of_item.Head) (from (of_item.Compute no_expression))
    (λ names word. there names of_item.Head (Plain word (Some a_keyword.Compute)) (names, Part (of_item.Compute no_expression)) refl))
    e
leads_item from to there an_item.Crlf =
    leads_then (the Open ⨾ keyword a_keyword.Crlf) (the Close) (from of_item.Nothing) (from (of_item.Closing an_item.Crlf)) (to an_item.Crlf)
    (leads_then (the Open) (keyword a_keyword.Crlf) (from of_item.Nothing) (from of_item.Head) (from (of_item.Closing an_item.Crlf)) (leads_item_open from to there)
    (leads_keyword a_keyword.Crlf (from of_item.Head) (from (of_item.Closing an_item.Crlf))
    (λ names word. there names of_item.Head (Plain word (Some a_keyword.Crlf)) (names, Part (of_item.Closing an_item.Crlf)) refl)))
    (leads_item_close from to there an_item.Crlf)
leads_item from to there (an_item.Tabto n) =
    leads_then (the Open ⨾ keyword a_keyword.Tabto ⨾ up_to 255 n) (the Close) (from of_item.Nothing) (from (of_item.Closing (an_item.Tabto n))) (to (an_item.Tabto n))
    (leads_then (the Open ⨾ keyword a_keyword.Tabto) (up_to 255 n) (from of_item.Nothing) (from of_item.Tabto) (from (of_item.Closing (an_item.Tabto n)))
    (leads_then (the Open) (keyword a_keyword.Tabto) (from of_item.Nothing) (from of_item.Head) (from of_item.Tabto) (leads_item_open from to there)
    (leads_keyword a_keyword.Tabto (from of_item.Head) (from of_item.Tabto)
    (λ names word. there names of_item.Head (Plain word (Some a_keyword.Tabto)) (names, Part of_item.Tabto) refl)))
    (leads_taken (number_up_to 255) (up_to 255) (number_taken 255) n (from of_item.Tabto) (from (of_item.Closing (an_item.Tabto n)))
    (λ names token after e. there names of_item.Tabto token (after, Part (of_item.Closing (an_item.Tabto n))) (ap (grown (λ m. of_item.Closing (an_item.Tabto m))) e))))
    (leads_item_close from to there (an_item.Tabto n))
leads_item from to there (an_item.Rjust n) =
    leads_then (the Open ⨾ keyword a_keyword.Rjust ⨾ up_to 255 n) (the Close) (from of_item.Nothing) (from (of_item.Closing (an_item.Rjust n))) (to (an_item.Rjust n))
    (leads_then (the Open ⨾ keyword a_keyword.Rjust) (up_to 255 n) (from of_item.Nothing) (from of_item.Rjust) (from (of_item.Closing (an_item.Rjust n)))
    (leads_then (the Open) (keyword a_keyword.Rjust) (from of_item.Nothing) (from of_item.Head) (from of_item.Rjust) (leads_item_open from to there)
    (leads_keyword a_keyword.Rjust (from of_item.Head) (from of_item.Rjust)
    (λ names word. there names of_item.Head (Plain word (Some a_keyword.Rjust)) (names, Part of_item.Rjust) refl)))
    (leads_taken (number_up_to 255) (up_to 255) (number_taken 255) n (from of_item.Rjust) (from (of_item.Closing (an_item.Rjust n)))
    (λ names token after e. there names of_item.Rjust token (after, Part (of_item.Closing (an_item.Rjust n))) (ap (grown (λ m. of_item.Closing (an_item.Rjust m))) e))))
    (leads_item_close from to there (an_item.Rjust n))
