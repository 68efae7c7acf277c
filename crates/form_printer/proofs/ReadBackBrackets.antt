-- Words of the grammar, and what stands in brackets behind a keyword, are read back.
use Rattle.std.proofs.Common.{◌≡◌, ℕ, List, [], ◌∷◌, ◌++◌, Some, length, codes, refl, sym, ap, subst, ◌<◌}
use Rattle.std.specs.List.{flat_map}
use Rattle.ops_text.specs.Names.{Names}
use Rattle.ops_tokens.specs.declared.token.Keyword.{Keyword}
use Rattle.ops_tokens.specs.Byte.{is_letter, AreAll}
use Rattle.ops_tokens.specs.Word.{word_token}
use Rattle.ops_tokens.specs.Token.{Token, Open, Close, Plain}
use Rattle.ops_reader.specs.Grammar.{Phrase, ◌⨾◌, any, some, the, keyword, symbol}
use Rattle.form_printer.specs.CanonicalValues.{symbol_text, spaced}
use Rattle.form_printer.proofs.NumberLemmas.{IsGrown, grown_not}
use Rattle.form_printer.proofs.PrintedTokens.{word_tokens}
use Rattle.form_printer.proofs.ReadBack.{Prints, PrintsThere, IsReadBack, KeepsNames, the_keeps, keyword_keeps, both_keep, prints_then, prints_apart, prints_blank, read_behind, read_before, read_both, read_never, read_spaced, spaced_ends}
use Rattle.form_printer.proofs.ReadBackValues.{read_symbol}

-- what is spelled in one way alone
pub read_fixed : {p : Phrase} {text : List ℕ} → KeepsNames p → ((names : Names) → Prints p names text) → IsReadBack p p [] (λ names. text)
read_fixed keeps prints = record {
  grown = λ before tokens after h. subst (IsGrown before) (sym (keeps before tokens after h)) (grown_not before);
  named = λ before tokens after h. tt;
  prints = λ before tokens middle after h lexed later. prints after;
}

-- a word that is a token of its own
pub the_prints : (token : Token) (word : List ℕ) → 0 < length word → AreAll is_letter word → word_token word ≡ token → (names : Names) → Prints (the token) names word
the_prints token word some letters e names = record { found = token ∷ []; has = word_tokens word token some letters e; spelled = (refl, refl) }

-- a keyword
pub keyword_prints : (key : Keyword) (word : List ℕ) → 0 < length word → AreAll is_letter word → word_token word ≡ Plain word (Some key) → (names : Names) → Prints (keyword key) names word
keyword_prints key word some letters e names = record { found = Plain word (Some key) ∷ []; has = word_tokens word (Plain word (Some key)) some letters e; spelled = (word, refl, refl) }

-- brackets
pub bracket_open : (names : Names) → PrintsThere (the Open) names (codes "(")
bracket_open names = record { found = Open ∷ []; has = λ rest. refl; spelled = (refl, refl) }

bracket_close : (names : Names) → Prints (the Close) names (codes ")")
bracket_close names = record { found = Close ∷ []; has = λ rest end. refl; spelled = (refl, refl) }

pub read_closed : {p p' : Phrase} {numbers : List ℕ} {text : Names → List ℕ} → IsReadBack p p' numbers text
    → IsReadBack (p ⨾ the Close) (p' ⨾ the Close) numbers (λ names. text names ++ codes ")")
read_closed k = read_before (the_keeps Close) k (λ names h. prints_apart (λ rest end. refl) h (bracket_close names))

-- a bracket and a keyword
abbrev pub head : Keyword → Phrase
head key = the Open ⨾ keyword key

pub head_keeps : (key : Keyword) → KeepsNames (head key)
head_keeps key = both_keep (the Open) (keyword key) (the_keeps Open) (keyword_keeps key)

head_spelled : (key : Keyword) (word : List ℕ) (names : Names) → head key names (Open ∷ Plain word (Some key) ∷ []) names
head_spelled key word names =
    record { front = Open ∷ []; back = Plain word (Some key) ∷ []; between = names; cut = refl; of_first = (refl, refl); of_second = (word, refl, refl) }

pub head_prints : (key : Keyword) (word : List ℕ) → 0 < length word → AreAll is_letter word → word_token word ≡ Plain word (Some key) → (names : Names) → Prints (head key) names (codes "(" ++ word)
head_prints key word some letters e names = record {
  found = Open ∷ Plain word (Some key) ∷ [];
  has = λ rest end. ap (λ l. Open ∷ l) (word_tokens word (Plain word (Some key)) some letters e rest end);
  spelled = head_spelled key word names;
}

-- the same with a space behind it
pub head_apart : (key : Keyword) (word : List ℕ) → 0 < length word → AreAll is_letter word → word_token word ≡ Plain word (Some key) → (names : Names) → PrintsThere (head key) names (codes "(" ++ word ++ codes " ")
head_apart key word some letters e names = prints_blank (head_prints key word some letters e names)

-- one thing or more with a space before each
pub read_some : {A : Type 0} (phrase : A → Phrase) (numbers : A → List ℕ) (text : Names → A → List ℕ)
    → ((x : A) → IsReadBack (phrase x) (phrase x) (numbers x) (λ names. text names x))
    → (xs : List A) → IsReadBack (some phrase xs) (some phrase xs) (flat_map numbers xs) (λ names. spaced (text names) xs)
read_some phrase numbers text each [] = read_never (λ before tokens after h. h)
read_some phrase numbers text each (x ∷ xs) = read_spaced phrase numbers text each (x ∷ xs)

-- a head and a symbol
pub read_title : (key : Keyword) (title : List ℕ) (n : ℕ) → ((names : Names) → PrintsThere (head key) names title)
    → IsReadBack (head key ⨾ symbol n) (head key ⨾ symbol n) (n ∷ []) (λ names. title ++ symbol_text names n)
read_title key title n there = read_behind (head_keeps key) (read_symbol n) (λ names h. prints_then (there names) h)

-- a list of things behind
pub read_listed : {A : Type 0} {p : Phrase} {ns : List ℕ} {title : Names → List ℕ} (phrase : A → Phrase) (numbers : A → List ℕ) (text : Names → A → List ℕ)
    → IsReadBack p p ns title → ((x : A) → IsReadBack (phrase x) (phrase x) (numbers x) (λ names. text names x))
    → (xs : List A) → IsReadBack (p ⨾ any phrase xs ⨾ the Close) (p ⨾ any phrase xs ⨾ the Close) (ns ++ flat_map numbers xs) (λ names. title names ++ spaced (text names) xs ++ codes ")")
read_listed {p = p} {title = title} phrase numbers text k each xs =
    read_closed
    (read_both {r = p ⨾ any phrase xs} {whole = λ names. title names ++ spaced (text names) xs} k (read_spaced phrase numbers text each xs)
    (λ names h m. prints_apart (spaced_ends (text names) xs) h m))
