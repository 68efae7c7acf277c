-- Which token a word is, from what it looks like and back.
use Rattle.std.proofs.Common.{◌≡◌, ℕ, ◌-◌, Bool, true, false, cond, ◌⊎◌, inl, inr, List, ◌++◌, length, take, Option, Some, None, unwrap_or, ℤ, codes, nat_lt, refl, sym, ap, ◌∙◌, subst, true≢false, length-append, arith}
use Rattle.std.specs.Option.{option_map}
use Rattle.std.specs.Str.{bytes_eq}
use Rattle.std.proofs.lemmas.Slice.Eq.{bytes_eq-Decides}
use Rattle.std.proofs.lemmas.List.{take_at}
use Rattle.rule_base.specs.declared.condition.Pred.{Pred}
use Rattle.ops_tokens.specs.declared.token.LexicalFault.TheVariants.{BadNumeral, LongSymbol, NotInProfile}
use Rattle.ops_tokens.specs.declared.token.Keyword.{Keyword}
use Rattle.ops_text.specs.Numeral.{integer_of}
use Rattle.ops_tokens.specs.Naming.{symbol_name}
use Rattle.ops_tokens.specs.Token.{Token, Arrow, Minus, Slashes, OpenList, CloseList, Predicate, Variable, Integer, Plain, Bad}
use Rattle.ops_tokens.specs.Word.{predicate_of, sign_of, inner, is_variable, is_integer, is_float, keyword_of, is_short, within_limit, fits, integer_token, long_word, word_token}
use Rattle.form_printer.specs.CanonicalValues.{is_plain}
use Rattle.ops_tokens.proofs.CutLemmas.{both_true}
use Rattle.ops_tokens.proofs.ShapeLemmas.{has_shape_of_its_kind}

-- a sign or a predicate
abbrev pub IsMark : Token → Type 0
IsMark Arrow = Unit {0}
IsMark Minus = Unit {0}
IsMark Slashes = Unit {0}
IsMark OpenList = Unit {0}
IsMark CloseList = Unit {0}
IsMark (Predicate p) = Unit {0}
IsMark other = ⊥

by_predicate : (o : Option Pred) (long : Token) → IsMark (unwrap_or (option_map Predicate o) long) ⊎ (unwrap_or (option_map Predicate o) long ≡ long)
by_predicate (Some p) long = inl tt
by_predicate None long = inr refl

by_sign : (arrow minus slashes lists ends : Bool) (token long : Token) → IsMark token ⊎ (token ≡ long)
    → let word = unwrap_or (cond arrow (Some Arrow) (cond minus (Some Minus) (cond slashes (Some Slashes) (cond lists (Some OpenList) (cond ends (Some CloseList) None))))) token in
    IsMark word ⊎ (word ≡ long)
by_sign true minus slashes lists ends token long h = inl tt
by_sign false true slashes lists ends token long h = inl tt
by_sign false false true lists ends token long h = inl tt
by_sign false false false true ends token long h = inl tt
by_sign false false false false true token long h = inl tt
by_sign false false false false false token long h = h

-- a word is a mark, or one of the longer kinds
pub mark_or_long : (word : List ℕ) → IsMark (word_token word) ⊎ (word_token word ≡ long_word word)
mark_or_long word =
    by_sign (bytes_eq word (codes "-->")) (bytes_eq word (codes "-")) (bytes_eq word (codes "//")) (bytes_eq word (codes "<<")) (bytes_eq word (codes ">>"))
    (unwrap_or (option_map Predicate (predicate_of word)) (long_word word)) (long_word word) (by_predicate (predicate_of word) (long_word word))

-- plain symbols

plain_is_no_mark : (token : Token) → IsMark token → is_plain token ≡ true → ⊥
plain_is_no_mark (Plain word key) mark plain = mark
plain_is_no_mark other mark plain = absurd (cc)

variable_is_not_plain : (name : List ℕ) (short : Bool) → is_plain (cond short (Variable name) (Bad LongSymbol)) ≡ false
variable_is_not_plain name true = refl
variable_is_not_plain name false = refl

integer_is_not_plain : (z : ℤ) (fit : Bool) → is_plain (cond fit (Integer z) (Bad BadNumeral)) ≡ false
integer_is_not_plain z true = refl
integer_is_not_plain z false = refl

by_kind : (variable integer float short : Bool) (one other : Token) (word : List ℕ) (key : Option Keyword) → is_plain one ≡ false → is_plain other ≡ false
    → let token = cond variable one (cond integer other (cond float (Bad NotInProfile) (cond short (Plain word key) (Bad LongSymbol)))) in
    is_plain token ≡ true → symbol_name token ≡ Some word
by_kind true integer float short one other word key no_one no_other plain = absurd (cc)
by_kind false true float short one other word key no_one no_other plain = absurd (cc)
by_kind false false true short one other word key no_one no_other plain = absurd (cc)
by_kind false false false true one other word key no_one no_other plain = refl
by_kind false false false false one other word key no_one no_other plain = absurd (cc)

-- a word that is a plain symbol stands for itself
pub plain_word : (word : List ℕ) → is_plain (word_token word) ≡ true → symbol_name (word_token word) ≡ Some word
plain_word word plain = by_mark (mark_or_long word)
  where
    by_mark : IsMark (word_token word) ⊎ (word_token word ≡ long_word word) → symbol_name (word_token word) ≡ Some word
    by_mark (inl mark) = absurd (plain_is_no_mark (word_token word) mark plain)
    by_mark (inr long) =
        ap symbol_name long
        ∙ by_kind (is_variable word) (is_integer word) (is_float word) (is_short word) (within_limit (inner word) (Variable (inner word))) (integer_token (integer_of word)) word (keyword_of word)
        (variable_is_not_plain (inner word) (is_short (inner word))) (integer_is_not_plain (integer_of word) (fits (integer_of word))) (ap is_plain (sym long) ∙ plain)

-- variables and integers

differs : (test : List ℕ → Bool) (word other : List ℕ) → test word ≡ true → test other ≡ false → bytes_eq word other ≡ false
differs test word other passes fails = by_same (bytes_eq word other) refl
  where
    by_same : (v : Bool) → bytes_eq word other ≡ v → bytes_eq word other ≡ false
    by_same true e = absurd (true≢false (sym passes ∙ ap test ((bytes_eq-Decides word other).0 e) ∙ fails))
    by_same false e = e

no_sign : (word : List ℕ) → is_integer word ≡ true → sign_of word ≡ None
no_sign word h =
    rw (
      differs is_integer word (codes "-->") h refl,
      differs is_integer word (codes "-") h refl,
      differs is_integer word (codes "//") h refl,
      differs is_integer word (codes "<<") h refl,
      differs is_integer word (codes ">>") h refl,
    )
    refl

no_predicate : (word : List ℕ) → is_integer word ≡ true → predicate_of word ≡ None
no_predicate word h =
    rw (
      differs is_integer word (codes "=") h refl,
      differs is_integer word (codes "<>") h refl,
      differs is_integer word (codes "<") h refl,
      differs is_integer word (codes "<=") h refl,
      differs is_integer word (codes ">") h refl,
      differs is_integer word (codes ">=") h refl,
      differs is_integer word (codes "<=>") h refl,
    )
    refl

integer_is_no_variable : (word : List ℕ) → is_integer word ≡ true → is_variable word ≡ false
integer_is_no_variable word integer = by_variable (is_variable word) refl
  where
    by_variable : (v : Bool) → is_variable word ≡ v → is_variable word ≡ false
    by_variable true e =
        let r = (has_shape_of_its_kind word).variable.0 e in
        let digits : is_integer (codes "<" ++ r.name ++ codes ">") ≡ true = ap is_integer (sym r.spelled) ∙ integer in
        absurd (true≢false (sym (both_true (nat_lt 0 (length (codes "<" ++ r.name ++ codes ">"))) false digits).1))
    by_variable false e = e

-- the token of a word that is an integer
pub integer_word : (word : List ℕ) → is_integer word ≡ true → fits (integer_of word) ≡ true → word_token word ≡ Integer (integer_of word)
integer_word word integer fit =
    ap (λ o. unwrap_or o (unwrap_or (option_map Predicate (predicate_of word)) (long_word word))) (no_sign word integer)
    ∙ ap (λ o. unwrap_or (option_map Predicate o) (long_word word)) (no_predicate word integer)
    ∙ rw (integer_is_no_variable word integer, integer, fit) refl

-- variables

inner_of_brackets : (name : List ℕ) → inner (codes "<" ++ name ++ codes ">") ≡ name
inner_of_brackets name =
    let long = length-append name (codes ">") in
    ap (λ n. take n (name ++ codes ">")) (let e : length (codes "<" ++ name ++ codes ">") - 2 ≡ length name = omega (arith, long) in e)
    ∙ take_at name (codes ">") (length name) refl

by_brackets : (variable short fit integer float limit : Bool) (z : ℤ) (word within name : List ℕ) (key : Option Keyword)
    → cond variable (cond short (Variable within) (Bad LongSymbol))
    (cond integer (cond fit (Integer z) (Bad BadNumeral)) (cond float (Bad NotInProfile) (cond limit (Plain word key) (Bad LongSymbol)))) ≡ Variable name
    → (variable ≡ true) × (within ≡ name)
by_brackets true true fit integer float limit z word within name key e = (refl, cc)
by_brackets true false fit integer float limit z word within name key e = absurd (cc)
by_brackets false short true true float limit z word within name key e = absurd (cc)
by_brackets false short false true float limit z word within name key e = absurd (cc)
by_brackets false short fit false true limit z word within name key e = absurd (cc)
by_brackets false short fit false false true z word within name key e = absurd (cc)
by_brackets false short fit false false false z word within name key e = absurd (cc)

-- a word that is a variable is its name in angle brackets
pub variable_word : (word name : List ℕ) → word_token word ≡ Variable name → word ≡ codes "<" ++ name ++ codes ">"
variable_word word name e = by_mark (mark_or_long word)
  where
    by_mark : IsMark (word_token word) ⊎ (word_token word ≡ long_word word) → word ≡ codes "<" ++ name ++ codes ">"
    by_mark (inl mark) = absurd (subst IsMark e mark)
    by_mark (inr long) =
        let v = by_brackets (is_variable word) (is_short (inner word)) (fits (integer_of word)) (is_integer word) (is_float word) (is_short word) (integer_of word) word (inner word) name (keyword_of word) (sym long ∙ e) in
        let r = (has_shape_of_its_kind word).variable.0 v.0 in
        let same : r.name ≡ name = sym (inner_of_brackets r.name) ∙ ap inner (sym r.spelled) ∙ v.1 in
        r.spelled ∙ ap (λ n. codes "<" ++ n ++ codes ">") same
