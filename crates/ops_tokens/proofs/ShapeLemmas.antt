-- The kinds of words by their shapes.
use Rattle.std.proofs.Common.{◌≡◌, ℕ, suc, ◌+◌, ◌-◌, ◌<◌, ◌≤◌, Bool, true, false, not, cond, ◌&&◌, ◌||◌, ◌==◌, ◌⊎◌, inl, inr, List, [], ◌∷◌, ◌++◌, length, take, drop, get_or, slice_index, codes, nat_lt, nat_le, refl, sym, ap, ◌∙◌, subst, append_assoc, append-nil, length-append, length-take, zero-add, take-append-drop, drop-cons, add-one, arith, rules, tests}
use Rattle.std.specs.Char.{is_ascii_digit}
use Rattle.std.specs.List.{list_all, list_any, prefix_len, position_or_len, before_first, after_first}
use Rattle.std.specs.Prelude.{count_by}
use Rattle.std.specs.Str.{byte}
use Rattle.std.specs.Str.Parse.{without_leading_sign}
use Rattle.std.proofs.lemmas.Bool.Decides.{nat_tests}
use Rattle.std.proofs.lemmas.List.Folds.{list_all-append}
use Rattle.std.proofs.lemmas.List.{take_at, drop_at, take_more, take_all}
use Rattle.std.proofs.lemmas.List.Sums.{sum_by-append}
use Rattle.ops_tokens.specs.Byte.{AreAll, BeginsWithout}
use Rattle.ops_tokens.specs.Word.{inner, is_angle, is_variable, is_digits, is_integer, is_digit_or_point, is_pointed, is_exponent_mark, is_mantissa, is_scientific, is_float}
use Rattle.ops_tokens.specs.WordShapes.{IsSign, IsSignedDigits, IsExponent, HasPoint, HasExponent, IsBracketed, HasShapeOfItsKind}
use Rattle.ops_tokens.proofs.CutLemmas.{both_true, prefix_stops}

-- tests that pass together
pub and_true : (a b : Bool) → a ≡ true → b ≡ true → (a && b) ≡ true
and_true true b p q = q
and_true false b p q = absurd (cc)

or_true : (a b : Bool) → (a || b) ≡ true → (a ≡ true) ⊎ (b ≡ true)
or_true true b h = inl refl
or_true false b h = inr h

or_left : (a b : Bool) → a ≡ true → (a || b) ≡ true
or_left true b h = refl
or_left false b h = absurd (cc)

or_right : (a b : Bool) → b ≡ true → (a || b) ≡ true
or_right true b h = refl
or_right false b h = h

pub all_weaker : (p q : ℕ → Bool) → ((b : ℕ) → p b ≡ true → q b ≡ true) → (bs : List ℕ) → AreAll p bs → AreAll q bs
all_weaker p q weaker [] all = refl
all_weaker p q weaker (b ∷ bs) all =
    let both = both_true (p b) (list_all p bs) all in
    and_true (q b) (list_all q bs) (weaker b both.0) (all_weaker p q weaker bs both.1)

-- a sign is cut off, and comes off again
abbrev is_sign : ℕ → Bool
is_sign b = b == 43 || b == 45

is_same : (a b : ℕ) → (a == b) ≡ true → a ≡ b
is_same a b h = grind (arith, nat_tests)

sign_of : (word : List ℕ) → (sign : List ℕ) × IsSign sign × (word ≡ sign ++ without_leading_sign word)
sign_of [] = ([], inl refl, refl)
sign_of (b ∷ bs) = by_minus (b == 45) refl
  where
    by_plus : (v : Bool) → (b == 43) ≡ v → (b == 45) ≡ false → (sign : List ℕ) × IsSign sign × (b ∷ bs ≡ sign ++ without_leading_sign (b ∷ bs))
    by_plus true plus minus = (43 ∷ [], inr (inl refl), rw (minus, plus) (ap (λ x. x ∷ bs) (is_same b 43 plus)))
    by_plus false plus minus = ([], inl refl, rw (minus, plus) refl)

    by_minus : (v : Bool) → (b == 45) ≡ v → (sign : List ℕ) × IsSign sign × (b ∷ bs ≡ sign ++ without_leading_sign (b ∷ bs))
    by_minus true minus = (45 ∷ [], inr (inr refl), rw minus (ap (λ x. x ∷ bs) (is_same b 45 minus)))
    by_minus false minus = by_plus (b == 43) refl minus

unsigned : (rest : List ℕ) → BeginsWithout is_sign rest → without_leading_sign rest ≡ rest
unsigned [] none = refl
unsigned (b ∷ bs) none =
    let plus : (b == 43) ≡ false = grind (arith, nat_tests) in
    let minus : (b == 45) ≡ false = grind (arith, nat_tests) in
    rw (minus, plus) refl

without_sign : (sign rest : List ℕ) → IsSign sign → BeginsWithout is_sign rest → without_leading_sign (sign ++ rest) ≡ rest
without_sign sign rest (inl e) none = rw e (unsigned rest none)
without_sign sign rest (inr (inl e)) none = rw e refl
without_sign sign rest (inr (inr e)) none = rw e refl

digit_is_no_sign : (b : ℕ) → is_ascii_digit b ≡ true → is_sign b ≡ false
digit_is_no_sign b h = grind (arith, nat_tests)

digits_begin : (digits more : List ℕ) → AreAll is_ascii_digit digits → 0 < length digits → BeginsWithout is_sign (digits ++ more)
digits_begin [] more all some = absurd (omega arith)
digits_begin (b ∷ bs) more all some = digit_is_no_sign b (both_true (is_ascii_digit b) (list_all is_ascii_digit bs) all).0

-- integers
digits_pass : (digits : List ℕ) → AreAll is_ascii_digit digits → 0 < length digits → is_digits digits ≡ true
digits_pass digits all some =
    let long : nat_lt 0 (length digits) ≡ true = search (rules, tests) in
    and_true (nat_lt 0 (length digits)) (list_all is_ascii_digit digits) long all

integer_shape : (word : List ℕ) → is_integer word ≡ true → IsSignedDigits word
integer_shape word h =
    let s = sign_of word in
    let digits = without_leading_sign word in
    let both = both_true (nat_lt 0 (length digits)) (list_all is_ascii_digit digits) h in
    let some : 0 < length digits = search (rules, tests, both.0) in
    record { sign = s.0; digits = digits; spelled = s.2; signed = s.1; all_digits = both.1; some = some }

integer_passes : (word : List ℕ) → IsSignedDigits word → is_integer word ≡ true
integer_passes word r =
    let begins : BeginsWithout is_sign r.digits = subst (BeginsWithout is_sign) (append-nil r.digits) (digits_begin r.digits [] r.all_digits r.some) in
    let e : without_leading_sign word ≡ r.digits = ap without_leading_sign r.spelled ∙ without_sign r.sign r.digits r.signed begins in
    ap is_digits e ∙ digits_pass r.digits r.all_digits r.some

-- points
abbrev is_point : ℕ → Bool
is_point b = b == byte "."

count_cons : (b : ℕ) (bs : List ℕ) → count_by is_point (b ∷ bs) ≡ cond (is_point b) 1 0 + count_by is_point bs
count_cons b bs = sum_by-append (λ x. cond (is_point x) 1 0) (b ∷ []) bs ∙ ap (λ n. n + count_by is_point bs) (zero-add (cond (is_point b) 1 0))

digit_if_no_point : (b : ℕ) → is_digit_or_point b ≡ true → is_point b ≡ false → is_ascii_digit b ≡ true
digit_if_no_point b h none = grind (arith, nat_tests)

no_point : (word : List ℕ) → AreAll is_digit_or_point word → count_by is_point word ≡ 0 → AreAll is_ascii_digit word
no_point [] all none = refl
no_point (b ∷ bs) all none = by_point (is_point b) refl (sym (count_cons b bs) ∙ none) (no_point bs)
  where
    both : (is_digit_or_point b ≡ true) × (list_all is_digit_or_point bs ≡ true)
    both = both_true (is_digit_or_point b) (list_all is_digit_or_point bs) all

    by_point : (v : Bool) → is_point b ≡ v → cond v 1 0 + count_by is_point bs ≡ 0 → (AreAll is_digit_or_point bs → count_by is_point bs ≡ 0 → AreAll is_ascii_digit bs) → AreAll is_ascii_digit (b ∷ bs)
    by_point true e none rest = absurd (omega arith)
    by_point false e none rest = and_true (is_ascii_digit b) (list_all is_ascii_digit bs) (digit_if_no_point b both.0 e) (rest both.1 (omega arith))

-- a word round a point
abbrev RoundPoint : List ℕ → Type 0
RoundPoint word = (front : List ℕ) × (back : List ℕ) × (word ≡ front ++ byte "." ∷ back) × AreAll is_ascii_digit front × AreAll is_ascii_digit back

one_point : (word : List ℕ) → AreAll is_digit_or_point word → count_by is_point word ≡ 1 → RoundPoint word
one_point [] all one = absurd (omega arith)
one_point (b ∷ bs) all one = by_point (is_point b) refl (sym (count_cons b bs) ∙ one) (one_point bs)
  where
    both : (is_digit_or_point b ≡ true) × (list_all is_digit_or_point bs ≡ true)
    both = both_true (is_digit_or_point b) (list_all is_digit_or_point bs) all

    by_point : (v : Bool) → is_point b ≡ v → cond v 1 0 + count_by is_point bs ≡ 1 → (AreAll is_digit_or_point bs → count_by is_point bs ≡ 1 → RoundPoint bs) → RoundPoint (b ∷ bs)
    by_point true e one rest = ([], bs, ap (λ x. x ∷ bs) (is_same b (byte ".") e), refl, no_point bs both.1 (omega arith))
    by_point false e one rest =
        let r = rest both.1 (omega arith) in
        (b ∷ r.0, r.1, ap (λ l. b ∷ l) r.2, and_true (is_ascii_digit b) (list_all is_ascii_digit r.0) (digit_if_no_point b both.0 e) r.3, r.4)

pointed_parts : (word : List ℕ) → is_pointed word ≡ true → RoundPoint word × (1 < length word)
pointed_parts word h =
    let all = both_true (nat_lt 1 (length word) && count_by is_point word == 1) (list_all is_digit_or_point word) h in
    let some = both_true (nat_lt 1 (length word)) (count_by is_point word == 1) all.0 in
    (one_point word all.1 (is_same (count_by is_point word) 1 some.1), search (rules, tests, some.0))

digit_is_no_point : (b : ℕ) → is_ascii_digit b ≡ true → is_point b ≡ false
digit_is_no_point b h = grind (arith, nat_tests)

digits_have_no_point : (digits : List ℕ) → AreAll is_ascii_digit digits → count_by is_point digits ≡ 0
digits_have_no_point [] all = refl
digits_have_no_point (b ∷ bs) all =
    let both = both_true (is_ascii_digit b) (list_all is_ascii_digit bs) all in
    let none = digit_is_no_point b both.0 in
    count_cons b bs ∙ rw none (omega (arith, digits_have_no_point bs both.1))

digit_may_stand : (b : ℕ) → is_ascii_digit b ≡ true → is_digit_or_point b ≡ true
digit_may_stand b h = or_left (is_ascii_digit b) (b == byte ".") h

pointed_passes : (front back : List ℕ) → AreAll is_ascii_digit front → AreAll is_ascii_digit back → 0 < length front + length back → is_pointed (front ++ byte "." ∷ back) ≡ true
pointed_passes front back before behind some =
    let word = front ++ byte "." ∷ back in
    let long : 1 < length word = omega (arith, length-append front (byte "." ∷ back)) in
    let once : count_by is_point word ≡ 1 =
    sum_by-append (λ x. cond (is_point x) 1 0) front (byte "." ∷ back) ∙ omega (arith, count_cons (byte ".") back, digits_have_no_point front before, digits_have_no_point back behind) in
    let all : list_all is_digit_or_point word ≡ true =
    list_all-append is_digit_or_point front (byte "." ∷ back)
    ∙ and_true (list_all is_digit_or_point front) (list_all is_digit_or_point (byte "." ∷ back))
    (all_weaker is_ascii_digit is_digit_or_point digit_may_stand front before)
    (all_weaker is_ascii_digit is_digit_or_point digit_may_stand back behind) in
    let test_long : nat_lt 1 (length word) ≡ true = search (rules, tests) in
    let test_once : (count_by is_point word == 1) ≡ true = search (rules, tests, once) in
    and_true (nat_lt 1 (length word) && count_by is_point word == 1) (list_all is_digit_or_point word)
    (and_true (nat_lt 1 (length word)) (count_by is_point word == 1) test_long test_once) all

-- exponents
not_false : (b : Bool) → not b ≡ false → b ≡ true
not_false true h = refl
not_false false h = absurd (cc)

not_true : (b : Bool) → not b ≡ true → b ≡ false
not_true true h = absurd (cc)
not_true false h = refl

true_not : (b : Bool) → b ≡ true → not b ≡ false
true_not true h = refl
true_not false h = absurd (cc)

cut_at : (word : List ℕ) (n : ℕ) → n < length word → word ≡ take n word ++ get_or word n 0 ∷ drop (n + 1) word
cut_at word n within =
    sym (take-append-drop n word)
    ∙ ap (λ l. take n word ++ l) (drop-cons word n 0 within ∙ ap (λ m. get_or word n 0 ∷ drop m word) (sym (add-one n)))

passes_up_to : (p : ℕ → Bool) (xs : List ℕ) (x : ℕ) (rest : List ℕ) → AreAll p xs → p x ≡ false → prefix_len p (xs ++ x ∷ rest) ≡ length xs
passes_up_to p [] x rest all stop = rw stop refl
passes_up_to p (y ∷ ys) x rest all stop =
    let both = both_true (p y) (list_all p ys) all in
    rw both.0 (omega (arith, passes_up_to p ys x rest both.1 stop))

abbrev stands_before : ℕ → Bool
stands_before b = not (is_exponent_mark b)

stands : (b : ℕ) → is_digit_or_point b ≡ true → stands_before b ≡ true
stands b h = grind (arith, nat_tests)

-- a mantissa, and an exponent behind it
abbrev WithPower : List ℕ → Type 0
WithPower word = (front : List ℕ) × (exponent : List ℕ) × (word ≡ front ++ exponent) × (is_mantissa front ≡ true) × IsExponent exponent

power_parts : (word : List ℕ) → is_scientific word ≡ true → WithPower word
power_parts word h =
    let n = position_or_len is_exponent_mark word in
    let front = before_first is_exponent_mark word in
    let power = after_first is_exponent_mark word in
    let all = both_true (nat_lt n (length word) && is_mantissa front) (is_integer power) h in
    let some = both_true (nat_lt n (length word)) (is_mantissa front) all.0 in
    let within : n < length word = search (rules, tests, some.0) in
    let behind : drop n word ≡ get_or word n 0 ∷ drop (suc n) word = drop-cons word n 0 within in
    let mark : not (is_exponent_mark (get_or word n 0)) ≡ false = subst (BeginsWithout stands_before) behind (prefix_stops stands_before word) in (
      front,
      get_or word n 0 ∷ power,
      cut_at word n within,
      some.1,
      record { mark = get_or word n 0; power = power; spelled = refl; marked = not_false (is_exponent_mark (get_or word n 0)) mark; signed_digits = integer_shape power all.1 },
    )

power_passes : (front : List ℕ) (mark : ℕ) (power : List ℕ) → is_mantissa front ≡ true → AreAll stands_before front → is_exponent_mark mark ≡ true → IsSignedDigits power
    → is_scientific (front ++ mark ∷ power) ≡ true
power_passes front mark power mantissa before marked digits =
    let word = front ++ mark ∷ power in
    let n : position_or_len is_exponent_mark word ≡ length front = passes_up_to stands_before front mark power before (true_not (is_exponent_mark mark) marked) in
    let within : nat_lt (position_or_len is_exponent_mark word) (length word) ≡ true = search (rules, tests, n, length-append front (mark ∷ power)) in
    let first : before_first is_exponent_mark word ≡ front = ap (λ m. take m word) n ∙ take_at front (mark ∷ power) (length front) refl in
    let rest : after_first is_exponent_mark word ≡ power =
    ap (λ m. drop (m + 1) word) n
    ∙ ap (drop (length front + 1)) (sym (append_assoc front (mark ∷ []) power))
    ∙ drop_at (front ++ mark ∷ []) power (length front + 1) (length-append front (mark ∷ [])) in
    and_true (nat_lt (position_or_len is_exponent_mark word) (length word) && is_mantissa (before_first is_exponent_mark word)) (is_integer (after_first is_exponent_mark word))
    (and_true (nat_lt (position_or_len is_exponent_mark word) (length word)) (is_mantissa (before_first is_exponent_mark word)) within (ap is_mantissa first ∙ mantissa))
    (ap is_integer rest ∙ integer_passes power digits)

-- floating-point numbers
around : (front back exponent : List ℕ) → (front ++ byte "." ∷ back) ++ exponent ≡ ((front ++ codes ".") ++ back) ++ exponent
around front back exponent = ap (λ l. l ++ exponent) (sym (append_assoc front (byte "." ∷ []) back))

point_shape : (word exponent : List ℕ) (body : List ℕ) → (sign : List ℕ) × IsSign sign × (word ≡ sign ++ (body ++ exponent)) → is_pointed body ≡ true → (exponent ≡ []) ⊎ IsExponent exponent → HasPoint word
point_shape word exponent body s h ends =
    let parts = pointed_parts body h in
    let r = parts.0 in
    record {
      sign = s.0;
      front = r.0;
      back = r.1;
      exponent = exponent;
      spelled = s.2 ∙ ap (λ l. s.0 ++ l) (ap (λ l. l ++ exponent) r.2 ∙ around r.0 r.1 exponent);
      signed = s.1;
      digits_before = r.3;
      digits_behind = r.4;
      some = omega (arith, parts.1, ap length r.2, length-append r.0 (byte "." ∷ r.1));
      ends = ends;
    }

float_shape : (word : List ℕ) → is_float word ≡ true → HasPoint word ⊎ HasExponent word
float_shape word h = by_kind (or_true (is_pointed number) (is_scientific number) h)
  where
    number : List ℕ
    number = without_leading_sign word

    by_mantissa : (p : WithPower number) → (is_digits p.0 ≡ true) ⊎ (is_pointed p.0 ≡ true) → HasPoint word ⊎ HasExponent word
    by_mantissa p (inl digits) =
        let s = sign_of word in
        let both = both_true (nat_lt 0 (length p.0)) (list_all is_ascii_digit p.0) digits in
        let some : 0 < length p.0 = search (rules, tests, both.0) in
        inr (record { sign = s.0; digits = p.0; exponent = p.1; spelled = s.2 ∙ ap (λ l. s.0 ++ l) p.2; signed = s.1; all_digits = both.1; some = some; ends = p.4 })
    by_mantissa p (inr pointed) =
        let s = sign_of word in
        inl (point_shape word p.1 p.0 (s.0, s.1, s.2 ∙ ap (λ l. s.0 ++ l) p.2) pointed (inr p.4))

    by_kind : (is_pointed number ≡ true) ⊎ (is_scientific number ≡ true) → HasPoint word ⊎ HasExponent word
    by_kind (inl pointed) =
        let s = sign_of word in
        inl (point_shape word [] number (s.0, s.1, s.2 ∙ ap (λ l. s.0 ++ l) (sym (append-nil number))) pointed (inl refl))
    by_kind (inr scientific) =
        let p = power_parts number scientific in
        by_mantissa p (or_true (is_digits p.0) (is_pointed p.0) p.3)

point_begins : (front more : List ℕ) → AreAll is_ascii_digit front → BeginsWithout is_sign (front ++ byte "." ∷ more)
point_begins [] more all = refl
point_begins (b ∷ bs) more all = digit_is_no_sign b (both_true (is_ascii_digit b) (list_all is_ascii_digit bs) all).0

pointed_stands : (body : List ℕ) → is_pointed body ≡ true → AreAll stands_before body
pointed_stands body h = all_weaker is_digit_or_point stands_before stands body (both_true (nat_lt 1 (length body) && count_by is_point body == 1) (list_all is_digit_or_point body) h).1

point_passes : (word : List ℕ) → HasPoint word → is_float word ≡ true
point_passes word r = by_end r.ends
  where
    body : List ℕ
    body = r.front ++ byte "." ∷ r.back

    pointed : is_pointed body ≡ true
    pointed = pointed_passes r.front r.back r.digits_before r.digits_behind r.some

    number : without_leading_sign word ≡ body ++ r.exponent
    number =
        ap without_leading_sign (r.spelled ∙ ap (λ l. r.sign ++ l) (sym (around r.front r.back r.exponent)))
        ∙ without_sign r.sign (body ++ r.exponent) r.signed
        (subst (BeginsWithout is_sign) (sym (append_assoc r.front (byte "." ∷ r.back) r.exponent)) (point_begins r.front (r.back ++ r.exponent) r.digits_before))

    by_end : (r.exponent ≡ []) ⊎ IsExponent r.exponent → is_float word ≡ true
    by_end (inl none) =
        let e : without_leading_sign word ≡ body = number ∙ ap (λ l. body ++ l) none ∙ append-nil body in
        or_left (is_pointed (without_leading_sign word)) (is_scientific (without_leading_sign word)) (ap is_pointed e ∙ pointed)
    by_end (inr ex) =
        let e : without_leading_sign word ≡ body ++ ex.mark ∷ ex.power = number ∙ ap (λ l. body ++ l) ex.spelled in
        let mantissa : is_mantissa body ≡ true = or_right (is_digits body) (is_pointed body) pointed in
        or_right (is_pointed (without_leading_sign word)) (is_scientific (without_leading_sign word))
        (ap is_scientific e ∙ power_passes body ex.mark ex.power mantissa (pointed_stands body pointed) ex.marked ex.signed_digits)

exponent_passes : (word : List ℕ) → HasExponent word → is_float word ≡ true
exponent_passes word r =
    let number : without_leading_sign word ≡ r.digits ++ r.exponent =
    ap without_leading_sign r.spelled ∙ without_sign r.sign (r.digits ++ r.exponent) r.signed (digits_begin r.digits r.exponent r.all_digits r.some) in
    let e : without_leading_sign word ≡ r.digits ++ r.ends.mark ∷ r.ends.power = number ∙ ap (λ l. r.digits ++ l) r.ends.spelled in
    let mantissa : is_mantissa r.digits ≡ true = or_left (is_digits r.digits) (is_pointed r.digits) (digits_pass r.digits r.all_digits r.some) in
    let before : AreAll stands_before r.digits = all_weaker is_ascii_digit stands_before (λ b h. stands b (digit_may_stand b h)) r.digits r.all_digits in
    or_right (is_pointed (without_leading_sign word)) (is_scientific (without_leading_sign word))
    (ap is_scientific e ∙ power_passes r.digits r.ends.mark r.ends.power mantissa before r.ends.marked r.ends.signed_digits)

-- variables
last_cut : (bs : List ℕ) → 0 < length bs → bs ≡ take (length bs - 1) bs ++ get_or bs (length bs - 1) 0 ∷ []
last_cut bs some =
    let n = length bs - 1 in
    let whole : n + 1 ≡ length bs = omega arith in
    sym (take_all (n + 1) bs (omega arith)) ∙ take_more bs n 0 (omega arith)

get_last : (xs : List ℕ) (x : ℕ) → get_or (xs ++ x ∷ []) (length xs) 0 ≡ x
get_last [] x = refl
get_last (y ∷ ys) x = get_last ys x

bracket_shape : (word : List ℕ) → is_variable word ≡ true → IsBracketed word
bracket_shape [] h = absurd (cc)
bracket_shape (b ∷ bs) h =
    let word = b ∷ bs in
    let all = both_true (nat_le 3 (length word) && (slice_index word 0 == byte "<") && (slice_index word (length word - 1) == byte ">")) (not (list_any is_angle (inner word))) h in
    let ends = both_true (nat_le 3 (length word) && (slice_index word 0 == byte "<")) (slice_index word (length word - 1) == byte ">") all.0 in
    let begins = both_true (nat_le 3 (length word)) (slice_index word 0 == byte "<") ends.0 in
    let long : 3 ≤ length word = search (rules, tests, begins.0) in
    let k = length bs - 1 in
    let last : get_or bs k 0 ≡ byte ">" =
    ap (λ n. get_or word n 0) (let e : suc k ≡ length word - 1 = omega arith in e) ∙ is_same (slice_index word (length word - 1)) (byte ">") ends.1 in
    let name : inner word ≡ take k bs = ap (λ n. take n bs) (let e : length word - 2 ≡ k = omega arith in e) in
    record {
      name = inner word;
      spelled = ap (λ x. x ∷ bs) (is_same b (byte "<") begins.1)
          ∙ ap (λ l. byte "<" ∷ l) (last_cut bs (omega arith) ∙ ap (λ x. take k bs ++ x ∷ []) last ∙ ap (λ l. l ++ byte ">" ∷ []) (sym name));
      some = omega (arith, ap length name, length-take k bs);
      no_bracket = not_true (list_any is_angle (inner word)) all.1;
    }

bracket_passes : (word : List ℕ) → IsBracketed word → is_variable word ≡ true
bracket_passes word r = ap is_variable r.spelled ∙ passes
  where
    all : List ℕ
    all = byte "<" ∷ (r.name ++ byte ">" ∷ [])

    len : length all ≡ length r.name + 2
    len = omega (arith, length-append r.name (byte ">" ∷ []))

    long : nat_le 3 (length all) ≡ true
    long = let some = r.some in search (rules, tests, len)

    last : slice_index all (length all - 1) ≡ byte ">"
    last =
        ap (λ n. get_or all n 0) (let e : length all - 1 ≡ suc (length r.name) = omega (arith, len) in e)
        ∙ get_last (byte "<" ∷ r.name) (byte ">")

    name : inner all ≡ r.name
    name =
        ap (λ n. take n (r.name ++ byte ">" ∷ [])) (let e : length all - 2 ≡ length r.name = omega (arith, len) in e)
        ∙ take_at r.name (byte ">" ∷ []) (length r.name) refl

    passes : is_variable all ≡ true
    passes =
        and_true (nat_le 3 (length all) && (slice_index all 0 == byte "<") && (slice_index all (length all - 1) == byte ">")) (not (list_any is_angle (inner all)))
        (and_true (nat_le 3 (length all) && (slice_index all 0 == byte "<")) (slice_index all (length all - 1) == byte ">")
        (and_true (nat_le 3 (length all)) (slice_index all 0 == byte "<") long refl)
        (ap (λ b. b == byte ">") last))
        (ap (λ l. not (list_any is_angle l)) name ∙ ap not r.no_bracket)

float_passes : (word : List ℕ) → HasPoint word ⊎ HasExponent word → is_float word ≡ true
float_passes word (inl r) = point_passes word r
float_passes word (inr r) = exponent_passes word r

pub has_shape_of_its_kind : (word : List ℕ) → HasShapeOfItsKind word
has_shape_of_its_kind word = record {
  variable = (bracket_shape word, bracket_passes word);
  integer = (integer_shape word, integer_passes word);
  float = (float_shape word, float_passes word);
}
