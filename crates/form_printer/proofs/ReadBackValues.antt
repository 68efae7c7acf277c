-- Symbols, variables, constants and settings are read back.
use Rattle.std.proofs.Common.{◌≡◌, ℕ, ◌<◌, ℤ, pos, List, [], ◌∷◌, ◌++◌, Option, Some, length, codes, refl, sym, ap, ◌∙◌, subst}
use Rattle.std.specs.Fmt.{signed_decimal, decimal}
use Rattle.std.proofs.lemmas.Option.{same_Some}
use Rattle.ops_text.specs.Names.{Names, number_of, with_name}
use Rattle.rule_base.specs.declared.condition.Pred.{Pred}
use Rattle.rule_base.specs.declared.condition.Pred.TheVariants as pred
use Rattle.rule_base.specs.declared.value.Value.{Value}
use Rattle.rule_base.specs.declared.value.Value.TheVariants as a_value
use Rattle.ops_reader.specs.declared.form.FormArg.{FormArg}
use Rattle.ops_reader.specs.declared.form.FormArg.TheVariants as an_argument
use Rattle.ops_tokens.specs.Naming.{symbol_name, constant_name, literal_name, variable_name, predicate_name}
use Rattle.ops_tokens.specs.Token.{Token, Arrow, Minus, OpenList, CloseList, Predicate, Caret, Variable, Integer, Plain, Barred}
use Rattle.ops_reader.specs.Grammar.{Phrase, ◌⨾◌, the, up_to, naming, symbol, variable, constant, literal, argument, setting}
use Rattle.form_printer.specs.CanonicalValues.{name_at, bare_or_barred, symbol_text, variable_text, constant_text, argument_text, setting_text}
use Rattle.ops_reader.specs.Named.{numbers_in_value, numbers_in_argument, numbers_in_setting}
use Rattle.form_printer.proofs.LexedLemmas.{IsName, IsVariableName, IsLexed, AreLexed}
use Rattle.form_printer.proofs.NumberLemmas.{IsKnown, IsGrown, grown_not, grown_by_one, known_then, number_then, known_stays, number_within, name_at-number_of}
use Rattle.form_printer.proofs.PrintedTokens.{HasTokens, printed_symbol, printed_variable, printed_integer}
use Rattle.form_printer.proofs.ReadBack.{PrintsThere, IsReadBack, the_keeps, prints_then, prints_blank, read_behind, read_both}

-- what was named once has the same number later
named_later : (before after : Names) (name : List ℕ) (n : ℕ) → IsGrown (with_name before name) after → n ≡ number_of before name → (IsKnown after name) × (n ≡ number_of after name)
named_later before after name n later number =
    let known = known_then before name in
    (later.known name known, number ∙ sym (number_then before name) ∙ sym (later.number name known))

-- a token that stands for a name, printed as another that does
abbrev NamePrints : (Token → Option (List ℕ)) → (List ℕ → List ℕ) → List ℕ → Type 0
NamePrints name_of text name = (token : Token) × HasTokens (text name) (token ∷ []) × (name_of token ≡ Some name)

read_naming : (from to : Token → Option (List ℕ)) (text : List ℕ → List ℕ) (n : ℕ)
    → ((token : Token) (name : List ℕ) → from token ≡ Some name → IsLexed token → NamePrints to text name)
    → IsReadBack (naming from n) (naming to n) (n ∷ []) (λ names. text (name_at names n))
read_naming from to text n each = record {
  grown = λ before tokens after h. subst (IsGrown before) (sym h.5) (grown_by_one before h.1);
  named = λ before tokens after h.
      let later = named_later before after h.1 n (subst (λ names. IsGrown names after) h.5 (grown_not after)) h.4 in
      (subst (λ m. m < length after) (sym later.1) (number_within after h.1 later.0), tt);
  prints = λ before tokens middle after h lexed grown.
      let name = h.1 in
      let later = named_later before after name n (subst (λ names. IsGrown names after) h.5 grown) h.4 in
      let same : name_at after n ≡ name = ap (name_at after) later.1 ∙ name_at-number_of after name later.0 in
      let one : IsLexed h.0 = (subst AreLexed h.2 lexed).0 in
      let p = each h.0 name h.3 one in
      record {
        found = p.0 ∷ [];
        has = subst (λ m. HasTokens (text m) (p.0 ∷ [])) (sym same) p.1;
        spelled = (p.0, name, refl, p.2, later.1, sym (known_stays after name later.0));
      };
}

symbol_is_name : (token : Token) (name : List ℕ) → symbol_name token ≡ Some name → IsLexed token → IsName name
symbol_is_name (Plain word key) name e lexed = subst IsName (same_Some word name e) lexed
symbol_is_name (Barred content) name e lexed = subst IsName (same_Some content name e) lexed
symbol_is_name other name e lexed = absurd (cc)

constant_is_name : (token : Token) (name : List ℕ) → constant_name token ≡ Some name → IsLexed token → IsName name
constant_is_name Minus name e lexed = subst IsName (same_Some (codes "-") name e) (record { short = refl; no_bar = refl })
constant_is_name other name e lexed = symbol_is_name other name e lexed

predicate_is_name : (p : Pred) → IsName (predicate_name p)
predicate_is_name pred.Eq = record { short = refl; no_bar = refl }
predicate_is_name pred.Ne = record { short = refl; no_bar = refl }
predicate_is_name pred.Lt = record { short = refl; no_bar = refl }
predicate_is_name pred.Le = record { short = refl; no_bar = refl }
predicate_is_name pred.Gt = record { short = refl; no_bar = refl }
predicate_is_name pred.Ge = record { short = refl; no_bar = refl }
predicate_is_name pred.Same = record { short = refl; no_bar = refl }

literal_is_name : (token : Token) (name : List ℕ) → literal_name token ≡ Some name → IsLexed token → IsName name
literal_is_name Arrow name e lexed = subst IsName (same_Some (codes "-->") name e) (record { short = refl; no_bar = refl })
literal_is_name OpenList name e lexed = subst IsName (same_Some (codes "<<") name e) (record { short = refl; no_bar = refl })
literal_is_name CloseList name e lexed = subst IsName (same_Some (codes ">>") name e) (record { short = refl; no_bar = refl })
literal_is_name (Predicate p) name e lexed = subst IsName (same_Some (predicate_name p) name e) (predicate_is_name p)
literal_is_name other name e lexed = constant_is_name other name e lexed

-- a symbol is a constant and a literal
as_constant : (token : Token) (name : List ℕ) → symbol_name token ≡ Some name → constant_name token ≡ Some name
as_constant Minus name e = absurd (cc)
as_constant other name e = e

as_literal : (token : Token) (name : List ℕ) → symbol_name token ≡ Some name → literal_name token ≡ Some name
as_literal Arrow name e = absurd (cc)
as_literal OpenList name e = absurd (cc)
as_literal CloseList name e = absurd (cc)
as_literal (Predicate p) name e = absurd (cc)
as_literal other name e = as_constant other name e

name_prints : (to : Token → Option (List ℕ)) → ((token : Token) (name : List ℕ) → symbol_name token ≡ Some name → to token ≡ Some name)
    → (name : List ℕ) → IsName name → NamePrints to bare_or_barred name
name_prints to weaker name is_name =
    let s = printed_symbol name is_name in
    (s.token, s.found, weaker s.token name s.name_of)

pub read_symbol : (n : ℕ) → IsReadBack (symbol n) (symbol n) (n ∷ []) (λ names. symbol_text names n)
unfolding symbol_text
read_symbol n = read_naming symbol_name symbol_name bare_or_barred n (λ token name e lexed. name_prints symbol_name (λ t m h. h) name (symbol_is_name token name e lexed))

variable_prints : (token : Token) (name : List ℕ) → variable_name token ≡ Some name → IsLexed token → NamePrints variable_name (λ m. codes "<" ++ m ++ codes ">") name
variable_prints (Variable word) name e lexed = (Variable name, printed_variable name (subst IsVariableName (same_Some word name e) lexed), refl)
variable_prints other name e lexed = absurd (cc)

pub read_variable : (n : ℕ) → IsReadBack (variable n) (variable n) (n ∷ []) (λ names. variable_text names n)
read_variable n = read_naming variable_name variable_name (λ m. codes "<" ++ m ++ codes ">") n variable_prints

pub read_integer : (z : ℤ) → IsReadBack (the (Integer z)) (the (Integer z)) [] (λ names. signed_decimal z)
read_integer z = record {
  grown = λ before tokens after h. subst (IsGrown before) (sym h.1) (grown_not before);
  named = λ before tokens after h. tt;
  prints = λ before tokens middle after h lexed later.
      record { found = Integer z ∷ []; has = printed_integer z (subst AreLexed h.0 lexed).0; spelled = (refl, refl) };
}

pub read_up_to : (most n : ℕ) → IsReadBack (up_to most n) (up_to most n) [] (λ names. decimal n)
read_up_to most n = record {
  grown = λ before tokens after h. subst (IsGrown before) (sym h.1.1) (grown_not before);
  named = λ before tokens after h. tt;
  prints = λ before tokens middle after h lexed later.
      record { found = Integer (pos n) ∷ []; has = printed_integer (pos n) (subst AreLexed h.1.0 lexed).0; spelled = (h.0, (refl, refl)) };
}

pub read_constant : (v : Value) → IsReadBack (constant v) (constant v) (numbers_in_value v) (λ names. constant_text names v)
unfolding symbol_text
read_constant (a_value.Int z) = read_integer z
read_constant (a_value.Sym n) =
    read_naming constant_name constant_name bare_or_barred n (λ token name e lexed. name_prints constant_name as_constant name (constant_is_name token name e lexed))

pub read_literal : (v : Value) → IsReadBack (literal v) (literal v) (numbers_in_value v) (λ names. constant_text names v)
unfolding symbol_text
read_literal (a_value.Int z) = read_integer z
read_literal (a_value.Sym n) =
    read_naming literal_name literal_name bare_or_barred n (λ token name e lexed. name_prints literal_name as_literal name (literal_is_name token name e lexed))

pub read_argument : (a : FormArg) → IsReadBack (argument a) (argument a) (numbers_in_argument a) (λ names. argument_text names a)
read_argument (an_argument.Con v) = read_constant v
read_argument (an_argument.Name n) = read_variable n

caret_prints : (names : Names) → PrintsThere (the Caret) names (codes "^")
caret_prints names = record { found = Caret ∷ []; has = λ rest. refl; spelled = (refl, refl) }

pub read_setting : {A : Type 0} (phrase : A → Phrase) (numbers : A → List ℕ) (text : Names → A → List ℕ)
    → ((x : A) → IsReadBack (phrase x) (phrase x) (numbers x) (λ names. text names x))
    → (set : ℕ × A) → IsReadBack (setting phrase set) (setting phrase set) (numbers_in_setting numbers set) (λ names. setting_text names (text names) set)
unfolding setting_text
read_setting phrase numbers text each set =
    read_both
    (read_behind {r = the Caret ⨾ symbol set.0} {whole = λ names. codes "^" ++ symbol_text names set.0} (the_keeps Caret) (read_symbol set.0) (λ names h. prints_then (caret_prints names) h))
    (each set.1) (λ names h k. prints_then (prints_blank h) k)
