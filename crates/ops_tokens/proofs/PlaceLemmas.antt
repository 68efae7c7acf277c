-- Where the tokens of a text begin, from its front on.
use Rattle.std.proofs.Common.{◌≡◌, ℕ, suc, ◌+◌, ◌-◌, ◌<◌, ◌≤◌, true, false, List, [], ◌∷◌, ◌++◌, length, map, take, drop, refl, sym, ap, ◌∙◌, length-append, arith, subst, length-drop, take-append-drop, take_all}
use Rattle.std.specs.List.{list_all, prefix_len}
use Rattle.std.proofs.lemmas.List.Folds.{length-prefix_len}
use Rattle.std.specs.Str.{byte}
use Rattle.ops_tokens.specs.declared.byte.ByteKind.{ByteKind}
use Rattle.ops_tokens.specs.declared.byte.ByteKind.TheVariants.{Blank, LineFeed, Bar, Open, Close, OpenBrace, CloseBrace, Caret, Letter}
use Rattle.ops_tokens.specs.Byte.{kind_of, is_letter_kind, is_letter, stands_in_bars, stands_in_line, AreAll, BeginsWithout}
use Rattle.ops_tokens.specs.Token.{Token}
use Rattle.ops_tokens.specs.Tokens.{Scan, Between, Comment, Word, Bars, mark, made, begun, after, at_end, tokens}
use Rattle.ops_tokens.specs.Places.{lefts_made, lefts_at_end, lefts, lefts_of}
use Rattle.ops_tokens.specs.CutPlaces.{HavePlaces}
use Rattle.ops_tokens.proofs.CutLemmas.{both_true, is_bar, is_line_feed, not_bar, not_line_feed, line_feed, is_the_bar, prefix_passes, prefix_stops}

-- the first place, from two lengths
same_first : (m n : ℕ) (rest : List ℕ) → m ≡ n → m ∷ rest ≡ n ∷ rest
same_first m n rest e = ap (λ k. k ∷ rest) e

-- what a byte of this kind makes behind a part of a word
letter_goes : (word : List ℕ) (kind : ByteKind) (b : ℕ) (bs : List ℕ) → is_letter_kind kind ≡ true
    → lefts_made (Word word) kind (suc (length bs)) ++ lefts (after (Word word) kind b) bs ≡ lefts (Word (word ++ b ∷ [])) bs
letter_goes word Letter b bs h = refl
letter_goes word kind b bs h = absurd (cc)

letter_begins : (kind : ByteKind) (b : ℕ) (bs : List ℕ) → is_letter_kind kind ≡ true
    → lefts_made Between kind (suc (length bs)) ++ lefts (after Between kind b) bs ≡ lefts (Word (b ∷ [])) bs
letter_begins Letter b bs h = refl
letter_begins kind b bs h = absurd (cc)

word_ends : (word : List ℕ) (kind : ByteKind) (b : ℕ) (bs : List ℕ) → is_letter_kind kind ≡ false
    → lefts_made (Word word) kind (suc (length bs)) ++ lefts (after (Word word) kind b) bs
    ≡ (length word + suc (length bs)) ∷ (lefts_made Between kind (suc (length bs)) ++ lefts (after Between kind b) bs)
word_ends word Letter b bs h = absurd (cc)
word_ends word kind b bs h = refl

in_word : (front word rest : List ℕ) → AreAll is_letter word → BeginsWithout is_letter rest
    → lefts (Word front) (word ++ rest) ≡ (length front + length (word ++ rest)) ∷ lefts_of rest
in_word front [] [] all end = same_first (length front) (length front + 0) [] (omega arith)
in_word front [] (b ∷ bs) all end = word_ends front (kind_of b) b bs end
in_word front (x ∷ xs) rest all end =
    let both = both_true (is_letter x) (list_all is_letter xs) all in
    letter_goes front (kind_of x) x (xs ++ rest) both.0
    ∙ in_word (front ++ x ∷ []) xs rest both.1 end
    ∙ same_first (length (front ++ x ∷ []) + length (xs ++ rest)) (length front + length (x ∷ xs ++ rest)) (lefts_of rest) (omega (arith, length-append front (x ∷ [])))

word_is : (word rest : List ℕ) → 0 < length word → AreAll is_letter word → BeginsWithout is_letter rest
    → lefts_of (word ++ rest) ≡ length (word ++ rest) ∷ lefts_of rest
word_is [] rest some all end = absurd (omega arith)
word_is (x ∷ xs) rest some all end =
    let both = both_true (is_letter x) (list_all is_letter xs) all in
    letter_begins (kind_of x) x (xs ++ rest) both.0
    ∙ in_word (x ∷ []) xs rest both.1 end
    ∙ same_first (1 + length (xs ++ rest)) (length (x ∷ xs ++ rest)) (lefts_of rest) (omega arith)

bar_stays : (content : List ℕ) (kind : ByteKind) (b : ℕ) (bs : List ℕ) → is_bar kind ≡ false
    → lefts_made (Bars content) kind (suc (length bs)) ++ lefts (after (Bars content) kind b) bs ≡ lefts (Bars (content ++ b ∷ [])) bs
bar_stays content Bar b bs h = absurd (cc)
bar_stays content kind b bs h = refl

line_stays : (kind : ByteKind) (b : ℕ) (bs : List ℕ) → is_line_feed kind ≡ false
    → lefts_made Comment kind (suc (length bs)) ++ lefts (after Comment kind b) bs ≡ lefts Comment bs
line_stays LineFeed b bs h = absurd (cc)
line_stays kind b bs h = refl

in_bars : (front content rest : List ℕ) → AreAll stands_in_bars content
    → lefts (Bars front) (content ++ byte "|" ∷ rest) ≡ (suc (length front) + length (content ++ byte "|" ∷ rest)) ∷ lefts_of rest
in_bars front [] rest all = refl
in_bars front (x ∷ xs) rest all =
    let both = both_true (stands_in_bars x) (list_all stands_in_bars xs) all in
    let more = xs ++ byte "|" ∷ rest in
    bar_stays front (kind_of x) x more (not_bar x both.0)
    ∙ in_bars (front ++ x ∷ []) xs rest both.1
    ∙ same_first (suc (length (front ++ x ∷ [])) + length more) (suc (length front) + length (x ∷ more)) (lefts_of rest) (omega (arith, length-append front (x ∷ [])))

in_open_bars : (front content : List ℕ) → AreAll stands_in_bars content → lefts (Bars front) content ≡ 0 ∷ []
in_open_bars front [] all = refl
in_open_bars front (x ∷ xs) all =
    let both = both_true (stands_in_bars x) (list_all stands_in_bars xs) all in
    bar_stays front (kind_of x) x xs (not_bar x both.0) ∙ in_open_bars (front ++ x ∷ []) xs both.1

in_line : (line rest : List ℕ) → AreAll stands_in_line line → BeginsWithout stands_in_line rest → lefts Comment (line ++ rest) ≡ lefts_of rest
in_line [] [] all end = refl
in_line [] (b ∷ bs) all end =
    let kind : kind_of b ≡ LineFeed = line_feed b end in
    ap (λ k. lefts_made Comment k (suc (length bs)) ++ lefts (after Comment k b) bs) kind
    ∙ sym (ap (λ k. lefts_made Between k (suc (length bs)) ++ lefts (after Between k b) bs) kind)
in_line (x ∷ xs) rest all end =
    let both = both_true (stands_in_line x) (list_all stands_in_line xs) all in
    line_stays (kind_of x) x (xs ++ rest) (not_line_feed x both.0) ∙ in_line xs rest both.1 end

-- a text that begins with a word
pub word_place : (text : List ℕ) → 0 < prefix_len is_letter text
    → lefts_of text ≡ length text ∷ lefts_of (drop (prefix_len is_letter text) text)
word_place text some =
    let n = prefix_len is_letter text in
    let long : 0 < length (take n text) = omega (arith, length-prefix_len is_letter text) in
    let whole = take-append-drop n text in
    ap lefts_of (sym whole)
    ∙ word_is (take n text) (drop n text) long (prefix_passes is_letter text) (prefix_stops is_letter text)
    ∙ ap (λ l. length l ∷ lefts_of (drop n text)) whole

-- a text behind a semicolon
pub line_places : (text : List ℕ) → lefts Comment text ≡ lefts_of (drop (prefix_len stands_in_line text) text)
line_places text =
    let n = prefix_len stands_in_line text in
    ap (lefts Comment) (sym (take-append-drop n text)) ∙ in_line (take n text) (drop n text) (prefix_passes stands_in_line text) (prefix_stops stands_in_line text)

-- a text behind a bar, which has another one or none
pub bars_place : (text : List ℕ) (b : ℕ) (behind : List ℕ) → drop (prefix_len stands_in_bars text) text ≡ b ∷ behind
    → lefts (Bars []) text ≡ (1 + length text) ∷ lefts_of behind
bars_place text b behind split =
    let n = prefix_len stands_in_bars text in
    let stop : stands_in_bars b ≡ false = subst (BeginsWithout stands_in_bars) split (prefix_stops stands_in_bars text) in
    let whole : text ≡ take n text ++ byte "|" ∷ behind =
    sym (take-append-drop n text) ∙ ap (λ l. take n text ++ l) (split ∙ ap (λ c. c ∷ behind) (is_the_bar b stop)) in
    ap (lefts (Bars [])) whole
    ∙ in_bars [] (take n text) behind (prefix_passes stands_in_bars text)
    ∙ ap (λ l. (1 + length l) ∷ lefts_of behind) (sym whole)

pub bars_open_place : (text rest : List ℕ) → rest ≡ drop (prefix_len stands_in_bars text) text → length rest ≡ 0 → lefts (Bars []) text ≡ 0 ∷ lefts_of rest
bars_open_place text [] split none =
    let n = prefix_len stands_in_bars text in
    let all : length text ≤ n = omega (arith, length-drop n text, ap length split) in
    in_open_bars [] text (subst (AreAll stands_in_bars) (take_all n text all) (prefix_passes stands_in_bars text))
bars_open_place text (b ∷ bs) split none = absurd (omega arith)

-- each token has a place
length-map_any : {A B : Type 0} (f : A → B) (xs : List A) → length (map f xs) ≡ length xs
length-map_any f [] = refl
length-map_any f (x ∷ xs) = ap suc (length-map_any f xs)

as_many_made : (scan : Scan) (kind : ByteKind) (left : ℕ) → length (lefts_made scan kind left) ≡ length (made scan kind)
as_many_made Between kind left = length-map_any (λ token. left) (mark kind)
as_many_made Comment kind left = refl
as_many_made (Word word) Letter left = refl
as_many_made (Word word) kind left = ap suc (length-map_any (λ token. left) (mark kind))
as_many_made (Bars content) Bar left = refl
as_many_made (Bars content) kind left = refl

as_many_at_end : (scan : Scan) → length (lefts_at_end scan) ≡ length (at_end scan)
as_many_at_end Between = refl
as_many_at_end Comment = refl
as_many_at_end (Word word) = refl
as_many_at_end (Bars content) = refl

pub as_many : (scan : Scan) (text : List ℕ) → length (lefts scan text) ≡ length (tokens scan text)
as_many scan [] = as_many_at_end scan
as_many scan (b ∷ bs) =
    let kind = kind_of b in
    let left = suc (length bs) in
    let places = lefts (after scan kind b) bs in
    let more = tokens (after scan kind b) bs in
    omega (arith, length-append (lefts_made scan kind left) places, length-append (made scan kind) more, as_many_made scan kind left, as_many (after scan kind b) bs)

-- what vanishes has no place, and a mark stands at its byte
blank_is : (b : ℕ) (rest : List ℕ) → kind_of b ≡ Blank → lefts_of (b ∷ rest) ≡ lefts_of rest
blank_is b rest kind = ap (λ k. lefts_made Between k (suc (length rest)) ++ lefts (after Between k b) rest) kind

mark_goes : (kind : ByteKind) (b left : ℕ) (rest : List ℕ) (token : Token) → mark kind ≡ token ∷ [] → lefts_made Between kind left ++ lefts (begun kind b) rest ≡ left ∷ lefts_of rest
mark_goes Open b left rest token h = refl
mark_goes Close b left rest token h = refl
mark_goes OpenBrace b left rest token h = refl
mark_goes CloseBrace b left rest token h = refl
mark_goes Caret b left rest token h = refl
mark_goes kind b left rest token h = absurd (cc)

pub have_places : HavePlaces
have_places = record {
  each = λ text. length-map_any (λ left. length text - left) (lefts_of text) ∙ as_many Between text;
  at_the_end = refl;
  blank = blank_is;
  line_feed = λ rest. refl;
  comment = in_line;
  marks = λ b rest token. mark_goes (kind_of b) b (suc (length rest)) rest token;
  word = word_is;
  barred = λ content rest all. in_bars [] content rest all ∙ same_first (1 + length (content ++ byte "|" ∷ rest)) (length (byte "|" ∷ content ++ byte "|" ∷ rest)) (lefts_of rest) (omega arith);
  bar_without_end = in_open_bars [];
}
