-- Forms that were read are read back from their canonical text.
use Rattle.std.proofs.Common.{◌≡◌, ℕ, List, [], ◌∷◌, ◌++◌, Bool, true, false, codes, refl, sym, ap, ◌∙◌, subst, append_assoc, append-nil, arith}
use Rattle.std.specs.List.{flat_map}
use Rattle.ops_text.specs.Names.{Names}
use Rattle.ops_tokens.specs.declared.token.Keyword.TheVariants as a_keyword
use Rattle.ops_reader.specs.declared.form.Form.{Form}
use Rattle.ops_reader.specs.declared.form.Form.TheVariants as a_form
use Rattle.ops_tokens.specs.Token.{Arrow}
use Rattle.ops_tokens.specs.Tokens.{tokens_of}
use Rattle.ops_reader.specs.Grammar.{Phrase, ◌⨾◌, any, some, the, keyword, symbol, literal, setting, condition, action, strategy_word, form, IsText}
use Rattle.form_printer.specs.CanonicalValues.{symbol_text, constant_text, spaced, setting_text}
use Rattle.form_printer.specs.CanonicalConditions.{condition_text}
use Rattle.form_printer.specs.CanonicalActions.{action_text}
use Rattle.form_printer.specs.Canonical.{strategy_text, form_text, canonical_text}
use Rattle.ops_reader.specs.Named.{numbers_in_value, numbers_in_setting, numbers_in_condition, numbers_in_action, numbers_in_form}
use Rattle.form_printer.specs.RoundTrip.{ReadsBack, TextFormsAreNamed}
use Rattle.form_printer.proofs.LexedLemmas.{tokens_are_lexed}
use Rattle.form_printer.proofs.NumberLemmas.{grown_not}
use Rattle.form_printer.proofs.PrintedTokens.{EndsWords}
use Rattle.form_printer.proofs.ReadBack.{Prints, IsReadBack, AreWithin, the_keeps, keyword_keeps, prints_then, prints_apart, prints_after_blank, read_behind, read_before, read_both, read_as, read_any, spaced_ends}
use Rattle.form_printer.proofs.ReadBackBrackets.{the_prints, keyword_prints, head, head_keeps, head_apart, read_fixed, read_closed, read_some, read_title, read_listed}
use Rattle.form_printer.proofs.ReadBackValues.{read_symbol, read_literal, read_setting}
use Rattle.form_printer.proofs.ReadBackConditions.{read_condition}
use Rattle.form_printer.proofs.ReadBackActions.{read_counted, read_action}

arrow_prints : (names : Names) → Prints (the Arrow) names (codes " -->")
arrow_prints names = prints_after_blank (the_prints Arrow (codes "-->") (omega arith) refl refl names)

strategy_prints : (mea : Bool) (names : Names) → Prints (keyword (strategy_word mea)) names (strategy_text mea)
strategy_prints true = keyword_prints a_keyword.Mea (codes "mea") (omega arith) refl refl
strategy_prints false = keyword_prints a_keyword.Lex (codes "lex") (omega arith) refl refl

-- the numbers of some symbols
within_singles : (names : Names) (ns : List ℕ) → AreWithin names (flat_map (λ n. n ∷ []) ns) → AreWithin names ns
within_singles names [] h = tt
within_singles names (n ∷ ns) h = (h.0, within_singles names ns h.1)

read_form : (f : Form) → IsReadBack (form f) (form f) (numbers_in_form f) (λ names. form_text names f)
read_form (a_form.Literalize class attrs) =
    read_as
    (read_listed symbol (λ n. n ∷ []) symbol_text (read_title a_keyword.Literalize (codes "(literalize ") class (head_apart a_keyword.Literalize (codes "literalize") (omega arith) refl refl)) read_symbol attrs)
    (λ names h. (h.0, within_singles names attrs h.1)) (λ names h. h)
read_form (a_form.P name conds actions) =
    read_listed action numbers_in_action action_text
    (read_before {r = head a_keyword.P ⨾ symbol name ⨾ some condition conds ⨾ the Arrow} {whole = λ names. codes "(p " ++ symbol_text names name ++ spaced (condition_text names) conds ++ codes " -->"} (the_keeps Arrow)
    (read_both {r = head a_keyword.P ⨾ symbol name ⨾ some condition conds} {whole = λ names. codes "(p " ++ symbol_text names name ++ spaced (condition_text names) conds}
    (read_title a_keyword.P (codes "(p ") name (head_apart a_keyword.P (codes "p") (omega arith) refl refl))
    (read_some condition numbers_in_condition condition_text read_condition conds) (λ names h k. prints_apart (spaced_ends (condition_text names) conds) h k))
    (λ names h. prints_apart (λ rest end. refl) h (arrow_prints names)))
    read_action actions
read_form (a_form.Make class sets) =
    read_listed (setting literal) (numbers_in_setting numbers_in_value) (λ names. setting_text names (constant_text names))
    (read_title a_keyword.Make (codes "(make ") class (head_apart a_keyword.Make (codes "make") (omega arith) refl refl))
    (read_setting literal numbers_in_value constant_text read_literal) sets
read_form (a_form.Strategy mea) =
    read_closed
    (read_behind {r = head a_keyword.Strategy ⨾ keyword (strategy_word mea)} {whole = λ names. codes "(strategy " ++ strategy_text mea} (head_keeps a_keyword.Strategy)
    (read_fixed (keyword_keeps (strategy_word mea)) (strategy_prints mea)) (λ names h. prints_then (head_apart a_keyword.Strategy (codes "strategy") (omega arith) refl refl names) h))
read_form (a_form.Watch level) = read_counted a_keyword.Watch (codes "(watch ") 3 level (head_apart a_keyword.Watch (codes "watch") (omega arith) refl refl)

-- a form with a line feed behind it
prints_line : {p : Phrase} {names : Names} {text : List ℕ} → Prints p names text → Prints p names (text ++ codes "\n")
prints_line {p} {names} {text} h = record {
  found = h.found;
  has = λ rest end. ap tokens_of (append_assoc text (codes "\n") rest) ∙ h.has (codes "\n" ++ rest) refl;
  spelled = h.spelled;
}

lines_end : (names : Names) (forms : List Form) → EndsWords (flat_map (λ f. form_text names f ++ codes "\n") forms)
lines_end names [] rest end = end
lines_end names (a_form.Literalize class attrs ∷ forms) rest end = refl
lines_end names (a_form.P name conds actions ∷ forms) rest end = refl
lines_end names (a_form.Make class sets ∷ forms) rest end = refl
lines_end names (a_form.Strategy mea ∷ forms) rest end = refl
lines_end names (a_form.Watch level ∷ forms) rest end = refl

read_forms : (forms : List Form) → IsReadBack (any form forms) (any form forms) (flat_map numbers_in_form forms) (λ names. canonical_text names forms)
read_forms = read_any form numbers_in_form (λ names f. form_text names f ++ codes "\n") (λ f. read_as (read_form f) (λ names h. h) (λ names h. prints_line h)) lines_end

pub text_forms_are_named : TextFormsAreNamed
text_forms_are_named before after tokens forms h = (read_forms forms).named before tokens after h

pub reads_back : ReadsBack
reads_back before after text forms h =
    let p = (read_forms forms).prints before (tokens_of text) after after h (tokens_are_lexed text) (grown_not after) in
    let found : tokens_of (canonical_text after forms) ≡ p.found = ap tokens_of (sym (append-nil (canonical_text after forms))) ∙ p.has [] tt ∙ append-nil p.found in
    subst (λ tokens. IsText after forms tokens after) (sym found) p.spelled
