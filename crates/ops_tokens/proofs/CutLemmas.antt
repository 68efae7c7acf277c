-- How a text falls into tokens, from its front on.
use Rattle.std.proofs.Common.{◌≡◌, ℕ, suc, ◌+◌, cond, ◌<◌, ◌≤◌, Bool, true, false, ◌&&◌, List, [], ◌∷◌, ◌++◌, length, take, drop, refl, sym, ap, ◌∙◌, append_assoc, append-nil, arith, subst, length-drop, take-append-drop, take_all}
use Rattle.std.specs.List.{list_all, prefix_len}
use Rattle.std.proofs.lemmas.List.Folds.{length-prefix_len}
use Rattle.std.proofs.lemmas.Bool.Decides.{nat_tests}
use Rattle.std.specs.Str.{byte}
use Rattle.ops_tokens.specs.declared.byte.ByteKind.{ByteKind}
use Rattle.ops_tokens.specs.declared.byte.ByteKind.TheVariants.{Blank, LineFeed, Bar, Open, Close, OpenBrace, CloseBrace, Caret, Letter}
use Rattle.ops_tokens.specs.declared.token.LexicalFault.TheVariants.{Unclosed}
use Rattle.ops_tokens.specs.Byte.{kind_of, is_letter_kind, is_letter, stands_in_bars, stands_in_line, AreAll, BeginsWithout}
use Rattle.ops_tokens.specs.Token.{Token, Bad}
use Rattle.ops_tokens.specs.Word.{word_token}
use Rattle.ops_tokens.specs.Tokens.{Between, Comment, Word, Bars, mark, barred_token, made, begun, after, tokens, tokens_of}
use Rattle.ops_tokens.specs.Cut.{FallsIntoTokens}

pub both_true : (a b : Bool) → (a && b) ≡ true → (a ≡ true) × (b ≡ true)
both_true true b h = (refl, h)
both_true false b h = absurd (cc)

-- what a byte of this kind makes behind a part of a word
letter_goes : (word : List ℕ) (kind : ByteKind) (b : ℕ) (bs : List ℕ) → is_letter_kind kind ≡ true
    → made (Word word) kind ++ tokens (after (Word word) kind b) bs ≡ tokens (Word (word ++ b ∷ [])) bs
letter_goes word Letter b bs h = refl
letter_goes word kind b bs h = absurd (cc)

letter_begins : (kind : ByteKind) (b : ℕ) (bs : List ℕ) → is_letter_kind kind ≡ true → made Between kind ++ tokens (after Between kind b) bs ≡ tokens (Word (b ∷ [])) bs
letter_begins Letter b bs h = refl
letter_begins kind b bs h = absurd (cc)

word_ends : (word : List ℕ) (kind : ByteKind) (b : ℕ) (bs : List ℕ) → is_letter_kind kind ≡ false
    → made (Word word) kind ++ tokens (after (Word word) kind b) bs ≡ word_token word ∷ (made Between kind ++ tokens (after Between kind b) bs)
word_ends word Letter b bs h = absurd (cc)
word_ends word kind b bs h = refl

in_word : (front word rest : List ℕ) → AreAll is_letter word → BeginsWithout is_letter rest → tokens (Word front) (word ++ rest) ≡ word_token (front ++ word) ∷ tokens_of rest
in_word front [] [] all end = ap (λ w. word_token w ∷ []) (sym (append-nil front))
in_word front [] (b ∷ bs) all end = word_ends front (kind_of b) b bs end ∙ ap (λ w. word_token w ∷ tokens_of (b ∷ bs)) (sym (append-nil front))
in_word front (x ∷ xs) rest all end =
    let both = both_true (is_letter x) (list_all is_letter xs) all in
    letter_goes front (kind_of x) x (xs ++ rest) both.0
    ∙ in_word (front ++ x ∷ []) xs rest both.1 end
    ∙ ap (λ w. word_token w ∷ tokens_of rest) (append_assoc front (x ∷ []) xs)

word_is : (word rest : List ℕ) → 0 < length word → AreAll is_letter word → BeginsWithout is_letter rest → tokens_of (word ++ rest) ≡ word_token word ∷ tokens_of rest
word_is [] rest some all end = absurd (omega arith)
word_is (x ∷ xs) rest some all end =
    let both = both_true (is_letter x) (list_all is_letter xs) all in
    letter_begins (kind_of x) x (xs ++ rest) both.0 ∙ in_word (x ∷ []) xs rest both.1 end

abbrev pub is_bar : ByteKind → Bool
is_bar Bar = true
is_bar kind = false

abbrev pub is_line_feed : ByteKind → Bool
is_line_feed LineFeed = true
is_line_feed kind = false

pub not_bar : (b : ℕ) → stands_in_bars b ≡ true → is_bar (kind_of b) ≡ false
not_bar b h = grind (arith, nat_tests)

pub not_line_feed : (b : ℕ) → stands_in_line b ≡ true → is_line_feed (kind_of b) ≡ false
not_line_feed b h = grind (arith, nat_tests)

pub line_feed : (b : ℕ) → stands_in_line b ≡ false → kind_of b ≡ LineFeed
line_feed b h = grind (arith, nat_tests)

bar_stays : (content : List ℕ) (kind : ByteKind) (b : ℕ) (bs : List ℕ) → is_bar kind ≡ false
    → made (Bars content) kind ++ tokens (after (Bars content) kind b) bs ≡ tokens (Bars (content ++ b ∷ [])) bs
bar_stays content Bar b bs h = absurd (cc)
bar_stays content kind b bs h = refl

line_stays : (kind : ByteKind) (b : ℕ) (bs : List ℕ) → is_line_feed kind ≡ false → made Comment kind ++ tokens (after Comment kind b) bs ≡ tokens Comment bs
line_stays LineFeed b bs h = absurd (cc)
line_stays kind b bs h = refl

in_bars : (front content rest : List ℕ) → AreAll stands_in_bars content → tokens (Bars front) (content ++ byte "|" ∷ rest) ≡ barred_token (front ++ content) ∷ tokens_of rest
in_bars front [] rest all = ap (λ c. barred_token c ∷ tokens_of rest) (sym (append-nil front))
in_bars front (x ∷ xs) rest all =
    let both = both_true (stands_in_bars x) (list_all stands_in_bars xs) all in
    bar_stays front (kind_of x) x (xs ++ byte "|" ∷ rest) (not_bar x both.0)
    ∙ in_bars (front ++ x ∷ []) xs rest both.1
    ∙ ap (λ c. barred_token c ∷ tokens_of rest) (append_assoc front (x ∷ []) xs)

in_open_bars : (front content : List ℕ) → AreAll stands_in_bars content → tokens (Bars front) content ≡ Bad Unclosed ∷ []
in_open_bars front [] all = refl
in_open_bars front (x ∷ xs) all =
    let both = both_true (stands_in_bars x) (list_all stands_in_bars xs) all in
    bar_stays front (kind_of x) x xs (not_bar x both.0) ∙ in_open_bars (front ++ x ∷ []) xs both.1

in_line : (line rest : List ℕ) → AreAll stands_in_line line → BeginsWithout stands_in_line rest → tokens Comment (line ++ rest) ≡ tokens_of rest
in_line [] [] all end = refl
in_line [] (b ∷ bs) all end =
    let kind : kind_of b ≡ LineFeed = line_feed b end in
    ap (λ k. made Comment k ++ tokens (after Comment k b) bs) kind ∙ sym (ap (λ k. made Between k ++ tokens (after Between k b) bs) kind)
in_line (x ∷ xs) rest all end =
    let both = both_true (stands_in_line x) (list_all stands_in_line xs) all in
    line_stays (kind_of x) x (xs ++ rest) (not_line_feed x both.0) ∙ in_line xs rest both.1 end

blank_is : (b : ℕ) (rest : List ℕ) → kind_of b ≡ Blank → tokens_of (b ∷ rest) ≡ tokens_of rest
blank_is b rest kind = ap (λ k. made Between k ++ tokens (after Between k b) rest) kind

mark_goes : (kind : ByteKind) (b : ℕ) (rest : List ℕ) (token : Token) → mark kind ≡ token ∷ [] → mark kind ++ tokens (begun kind b) rest ≡ token ∷ tokens_of rest
mark_goes Open b rest token h = ap (λ l. l ++ tokens_of rest) h
mark_goes Close b rest token h = ap (λ l. l ++ tokens_of rest) h
mark_goes OpenBrace b rest token h = ap (λ l. l ++ tokens_of rest) h
mark_goes CloseBrace b rest token h = ap (λ l. l ++ tokens_of rest) h
mark_goes Caret b rest token h = ap (λ l. l ++ tokens_of rest) h
mark_goes kind b rest token h = absurd (cc)

pub falls_into_tokens : FallsIntoTokens
falls_into_tokens = record {
  at_the_end = refl;
  blank = blank_is;
  line_feed = λ rest. refl;
  comment = in_line;
  marks = λ b rest token. mark_goes (kind_of b) b rest token;
  word = word_is;
  barred = in_bars [];
  bar_without_end = in_open_bars [];
}

-- what a search from the front on cuts off, and where it stops
one_more : (n : ℕ) → 1 + n ≡ suc n
one_more n = omega arith

passes_first : (test : ℕ → Bool) (b : ℕ) (bs : List ℕ) (v : Bool) → test b ≡ v → AreAll test (take (prefix_len test bs) bs) → AreAll test (take (cond v (1 + prefix_len test bs) 0) (b ∷ bs))
passes_first test b bs true h rest = rw one_more (rw h rest)
passes_first test b bs false h rest = refl

pub prefix_passes : (test : ℕ → Bool) (text : List ℕ) → AreAll test (take (prefix_len test text) text)
prefix_passes test [] = refl
prefix_passes test (b ∷ bs) = passes_first test b bs (test b) refl (prefix_passes test bs)

stops_first : (test : ℕ → Bool) (b : ℕ) (bs : List ℕ) (v : Bool) → test b ≡ v → BeginsWithout test (drop (prefix_len test bs) bs) → BeginsWithout test (drop (cond v (1 + prefix_len test bs) 0) (b ∷ bs))
stops_first test b bs true h rest = rw one_more rest
stops_first test b bs false h rest = h

pub prefix_stops : (test : ℕ → Bool) (text : List ℕ) → BeginsWithout test (drop (prefix_len test text) text)
prefix_stops test [] = tt
prefix_stops test (b ∷ bs) = stops_first test b bs (test b) refl (prefix_stops test bs)

-- a text that begins with a word
pub word_cut : (text : List ℕ) → 0 < prefix_len is_letter text
    → tokens_of text ≡ word_token (take (prefix_len is_letter text) text) ∷ tokens_of (drop (prefix_len is_letter text) text)
word_cut text some =
    let n = prefix_len is_letter text in
    let long : 0 < length (take n text) = omega (arith, length-prefix_len is_letter text) in
    ap tokens_of (sym (take-append-drop n text)) ∙ word_is (take n text) (drop n text) long (prefix_passes is_letter text) (prefix_stops is_letter text)

-- a text behind a semicolon
pub line_cut : (text : List ℕ) → tokens Comment text ≡ tokens_of (drop (prefix_len stands_in_line text) text)
line_cut text =
    let n = prefix_len stands_in_line text in
    ap (tokens Comment) (sym (take-append-drop n text)) ∙ in_line (take n text) (drop n text) (prefix_passes stands_in_line text) (prefix_stops stands_in_line text)

pub is_the_bar : (b : ℕ) → stands_in_bars b ≡ false → b ≡ byte "|"
is_the_bar b h = grind (arith, nat_tests)

-- a text behind a bar, which has another one or none
pub bars_cut : (text : List ℕ) (b : ℕ) (behind : List ℕ) → drop (prefix_len stands_in_bars text) text ≡ b ∷ behind
    → tokens (Bars []) text ≡ barred_token (take (prefix_len stands_in_bars text) text) ∷ tokens_of behind
bars_cut text b behind split =
    let n = prefix_len stands_in_bars text in
    let stop : stands_in_bars b ≡ false = subst (BeginsWithout stands_in_bars) split (prefix_stops stands_in_bars text) in
    let whole : text ≡ take n text ++ byte "|" ∷ behind =
    sym (take-append-drop n text) ∙ ap (λ l. take n text ++ l) (split ∙ ap (λ c. c ∷ behind) (is_the_bar b stop)) in
    ap (tokens (Bars [])) whole ∙ in_bars [] (take n text) behind (prefix_passes stands_in_bars text)

pub bars_open : (text rest : List ℕ) → rest ≡ drop (prefix_len stands_in_bars text) text → length rest ≡ 0 → tokens (Bars []) text ≡ Bad Unclosed ∷ tokens_of rest
bars_open text [] split none =
    let n = prefix_len stands_in_bars text in
    let all : length text ≤ n = omega (arith, length-drop n text, ap length split) in
    in_open_bars [] text (subst (AreAll stands_in_bars) (take_all n text all) (prefix_passes stands_in_bars text))
bars_open text (b ∷ bs) split none = absurd (omega arith)
