-- What stands in the tokens of a text: names that are short and have no bar, variables that are one word, and integers
-- of 64 bits.
use Rattle.std.proofs.Common.{◌≡◌, ℕ, Bool, true, false, cond, ◌⊎◌, inl, inr, List, [], ◌∷◌, ◌++◌, codes, refl, sym, ap, ◌∙◌, subst, arith}
use Rattle.std.specs.List.{AllByRecursion, list_all}
use Rattle.std.proofs.lemmas.Bool.Decides.{nat_tests}
use Rattle.std.proofs.lemmas.List.Folds.{list_all-append}
use Rattle.ops_text.specs.Numeral.{integer_of}
use Rattle.ops_tokens.specs.declared.byte.ByteKind.{ByteKind}
use Rattle.ops_tokens.specs.declared.byte.ByteKind.TheVariants as a_kind
use Rattle.ops_tokens.specs.declared.token.LexicalFault.TheVariants.{BadNumeral, LongSymbol, NotInProfile}
use Rattle.ops_tokens.specs.Byte.{kind_of, is_letter, is_letter_kind, stands_in_bars, AreAll}
use Rattle.ops_tokens.specs.Token.{Token, Variable, Integer, Plain, Barred, Bad}
use Rattle.ops_tokens.specs.Word.{inner, is_variable, is_integer, is_float, keyword_of, is_short, within_limit, fits, integer_token, long_word, word_token}
use Rattle.ops_tokens.specs.Tokens.{Scan, Between, Comment, Word, Bars, mark, barred_token, made, after, at_end, tokens, tokens_of}
use Rattle.ops_tokens.proofs.ShapeLemmas.{and_true, all_weaker}
use Rattle.form_printer.proofs.WordKinds.{IsMark, mark_or_long, variable_word}

-- a name that can stand between bars
pub record IsName (name : List ℕ) : Type 0 where
  pub short : is_short name ≡ true
  pub no_bar : AreAll stands_in_bars name

-- a name that a word has in angle brackets
pub record IsVariableName (name : List ℕ) : Type 0 where
  pub letters : AreAll is_letter (codes "<" ++ name ++ codes ">")
  pub token : word_token (codes "<" ++ name ++ codes ">") ≡ Variable name

-- what a text can have in the token
abbrev pub IsLexed : Token → Type 0
IsLexed (Plain word key) = IsName word
IsLexed (Barred content) = IsName content
IsLexed (Variable name) = IsVariableName name
IsLexed (Integer z) = fits z ≡ true
IsLexed other = Unit {0}

abbrev pub AreLexed : List Token → Type 0
AreLexed = AllByRecursion IsLexed

letter_in_bars : (b : ℕ) → is_letter b ≡ true → stands_in_bars b ≡ true
letter_in_bars b h = grind (arith, nat_tests)

-- words

mark_is_lexed : (token : Token) → IsMark token → IsLexed token
mark_is_lexed (Plain word key) marked = absurd marked
mark_is_lexed (Barred content) marked = absurd marked
mark_is_lexed (Variable name) marked = absurd marked
mark_is_lexed (Integer z) marked = absurd marked
mark_is_lexed other marked = tt

long_is_lexed : (word : List ℕ) → AreAll is_letter word → word_token word ≡ long_word word → IsLexed (long_word word)
long_is_lexed word letters long = by_variable (is_variable word) refl
  where
    plain : Token
    plain = Plain word (keyword_of word)

    by_limit : (v : Bool) → is_short word ≡ v → IsLexed (cond v (Plain word (keyword_of word)) (Bad LongSymbol))
    by_limit true e = record { short = e; no_bar = all_weaker is_letter stands_in_bars letter_in_bars word letters }
    by_limit false e = tt

    by_float : (v : Bool) → IsLexed (cond v (Bad NotInProfile) (within_limit word (Plain word (keyword_of word))))
    by_float true = tt
    by_float false = by_limit (is_short word) refl

    by_fit : (v : Bool) → fits (integer_of word) ≡ v → IsLexed (cond v (Integer (integer_of word)) (Bad BadNumeral))
    by_fit true e = e
    by_fit false e = tt

    by_integer : (v : Bool) → IsLexed (cond v (integer_token (integer_of word)) (cond (is_float word) (Bad NotInProfile) (within_limit word (Plain word (keyword_of word)))))
    by_integer true = by_fit (fits (integer_of word)) refl
    by_integer false = by_float (is_float word)

    by_name : (v : Bool) → is_variable word ≡ true → is_short (inner word) ≡ v → IsLexed (cond v (Variable (inner word)) (Bad LongSymbol))
    by_name true variable e =
        let token : word_token word ≡ Variable (inner word) = long ∙ rw (variable, e) refl in
        let spelled = variable_word word (inner word) token in
        record { letters = subst (AreAll is_letter) spelled letters; token = ap word_token (sym spelled) ∙ token }
    by_name false variable e = tt

    by_variable : (v : Bool) → is_variable word ≡ v
        → IsLexed (cond v (within_limit (inner word) (Variable (inner word)))
        (cond (is_integer word) (integer_token (integer_of word)) (cond (is_float word) (Bad NotInProfile) (within_limit word (Plain word (keyword_of word))))))
    by_variable true e = by_name (is_short (inner word)) e refl
    by_variable false e = by_integer (is_integer word)

word_is_lexed : (word : List ℕ) → AreAll is_letter word → IsLexed (word_token word)
word_is_lexed word letters = by_mark (mark_or_long word)
  where
    by_mark : IsMark (word_token word) ⊎ (word_token word ≡ long_word word) → IsLexed (word_token word)
    by_mark (inl marked) = mark_is_lexed (word_token word) marked
    by_mark (inr long) = subst IsLexed (sym long) (long_is_lexed word letters long)

barred_is_lexed : (content : List ℕ) → AreAll stands_in_bars content → IsLexed (barred_token content)
barred_is_lexed content no_bar = by_limit (is_short content) refl
  where
    by_limit : (v : Bool) → is_short content ≡ v → IsLexed (cond v (Barred content) (Bad LongSymbol))
    by_limit true e = record { short = e; no_bar = no_bar }
    by_limit false e = tt

-- texts

-- what has been read of a word or between bars
abbrev IsCut : Scan → Type 0
IsCut (Word word) = AreAll is_letter word
IsCut (Bars content) = AreAll stands_in_bars content
IsCut other = Unit {0}

push : (test : ℕ → Bool) (bs : List ℕ) (b : ℕ) → AreAll test bs → test b ≡ true → AreAll test (bs ++ b ∷ [])
push test bs b all one = list_all-append test bs (b ∷ []) ∙ and_true (list_all test bs) (list_all test (b ∷ [])) all (and_true (test b) true one refl)

both_lexed : (front back : List Token) → AreLexed front → AreLexed back → AreLexed (front ++ back)
both_lexed [] back one other = other
both_lexed (token ∷ front) back one other = (one.0, both_lexed front back one.1 other)

mark_lexed : (kind : ByteKind) → AreLexed (mark kind)
mark_lexed a_kind.Open = (tt, tt)
mark_lexed a_kind.Close = (tt, tt)
mark_lexed a_kind.OpenBrace = (tt, tt)
mark_lexed a_kind.CloseBrace = (tt, tt)
mark_lexed a_kind.Caret = (tt, tt)
mark_lexed other = tt

begun_cut : (kind : ByteKind) (b : ℕ) → kind_of b ≡ kind → AreLexed (mark kind) × IsCut (after Between kind b)
begun_cut a_kind.Letter b e = (tt, and_true (is_letter b) true (ap is_letter_kind e) refl)
begun_cut a_kind.Bar b e = (tt, refl)
begun_cut kind b e = (mark_lexed kind, tt)

no_bar : (kind : ByteKind) (b : ℕ) → kind_of b ≡ kind → (kind ≡ a_kind.Bar → ⊥) → stands_in_bars b ≡ true
no_bar kind b e other = by_bar (stands_in_bars b) refl
  where
    by_bar : (v : Bool) → stands_in_bars b ≡ v → stands_in_bars b ≡ true
    by_bar true h = h
    by_bar false h = absurd (other (sym e ∙ (let bar : kind_of b ≡ a_kind.Bar = grind (arith, nat_tests) in bar)))

made_lexed : (scan : Scan) (kind : ByteKind) (b : ℕ) → kind_of b ≡ kind → IsCut scan → AreLexed (made scan kind) × IsCut (after scan kind b)
made_lexed Between kind b e cut = begun_cut kind b e
made_lexed Comment a_kind.LineFeed b e cut = (tt, tt)
made_lexed Comment kind b e cut = (tt, tt)
made_lexed (Word word) a_kind.Letter b e cut = (tt, push is_letter word b cut (ap is_letter_kind e))
made_lexed (Word word) kind b e cut = let begun = begun_cut kind b e in ((word_is_lexed word cut, begun.0), begun.1)
made_lexed (Bars content) a_kind.Bar b e cut = ((barred_is_lexed content cut, tt), tt)
made_lexed (Bars content) kind b e cut = (tt, push stands_in_bars content b cut (no_bar kind b e (λ h. cc)))

end_lexed : (scan : Scan) → IsCut scan → AreLexed (at_end scan)
end_lexed Between cut = tt
end_lexed Comment cut = tt
end_lexed (Word word) cut = (word_is_lexed word cut, tt)
end_lexed (Bars content) cut = (tt, tt)

rest_lexed : (scan : Scan) (text : List ℕ) → IsCut scan → AreLexed (tokens scan text)
rest_lexed scan [] cut = end_lexed scan cut
rest_lexed scan (b ∷ bs) cut =
    let one = made_lexed scan (kind_of b) b refl cut in
    both_lexed (made scan (kind_of b)) (tokens (after scan (kind_of b) b) bs) one.0 (rest_lexed (after scan (kind_of b) b) bs one.1)

-- what stands in the tokens of a text
pub tokens_are_lexed : (text : List ℕ) → AreLexed (tokens_of text)
tokens_are_lexed text = rest_lexed Between text tt
