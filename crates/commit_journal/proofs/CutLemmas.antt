-- How lists that lie one behind another are cut: their number, a list more, each of them, and all as one.
use Rattle.std.proofs.Common.{◌≡◌, ℕ, ◌+◌, ◌-◌, ◌≤◌, ◌<◌, List, [], ◌∷◌, ◌++◌, Some, length, drop, map, take, slice_get, zero, suc, refl, sym, ◌∙◌, ap, subst, arith, min}
use Rattle.std.specs.Prelude.{slice_index, slice_range}
use Rattle.std.specs.List.{flat_map}
use Rattle.std.proofs.lemmas.List.{drop-drop, drop-take, length-drop, length-take, take-take, take_all}
use Rattle.std.proofs.Math.Seq.{take-add}
use Rattle.commit_journal.specs.Lists.{RiseTo, cut, cut_from}

pub length-cut_from : {X : Type 0} (begin : ℕ) (ends : List ℕ) (items : List X) → length (cut_from begin ends items) ≡ length ends
length-cut_from begin [] items = refl
length-cut_from begin (end ∷ ends) items = ap suc (length-cut_from end ends items)

-- what stands before the end of a list stays where more follows
take_before : {X : Type 0} (n : ℕ) (xs ys : List X) → n ≤ length xs → take n (xs ++ ys) ≡ take n xs
take_before zero xs ys within = refl
take_before (suc n) [] ys within = absurd (omega (arith, within))
take_before (suc n) (x ∷ xs) ys within = ap (λ rest. x ∷ rest) (take_before n xs ys (omega (arith, within)))

range_before : {X : Type 0} (start size : ℕ) (xs ys : List X) → start + size ≤ length xs → take size (drop start (xs ++ ys)) ≡ take size (drop start xs)
range_before zero size xs ys within = take_before size xs ys (omega (arith, within))
range_before (suc start) size [] ys within = absurd (omega (arith, within))
range_before (suc start) size (x ∷ xs) ys within = range_before start size xs ys (omega (arith, within))

-- places that rise begin below their last
pub RiseTo-le : (begin : ℕ) (ends : List ℕ) (last : ℕ) → RiseTo begin ends last → begin ≤ last
RiseTo-le begin [] last rise = omega (arith, rise)
RiseTo-le begin (end ∷ ends) last rise = omega (arith, rise.0, RiseTo-le end ends last rise.1)

pub RiseTo-push : (begin : ℕ) (ends : List ℕ) (last end : ℕ) → RiseTo begin ends last → last ≤ end → RiseTo begin (ends ++ end ∷ []) end
RiseTo-push begin [] last end rise above = (omega (arith, rise, above), refl)
RiseTo-push begin (first ∷ ends) last end rise above = (rise.0, RiseTo-push first ends last end rise.1 above)

cut_from-more : {X : Type 0} (begin : ℕ) (ends : List ℕ) (last : ℕ) (items more : List X) → RiseTo begin ends last → last ≤ length items → cut_from begin ends (items ++ more) ≡ cut_from begin ends items
cut_from-more begin [] last items more rise within = refl
cut_from-more begin (end ∷ ends) last items more rise within =
    let below = RiseTo-le end ends last rise.1 in
    let first : slice_range (items ++ more) begin end ≡ slice_range items begin end = range_before begin (end - begin) items more (omega (arith, rise.0, below, within)) in
    ap (λ xs. xs ∷ cut_from end ends (items ++ more)) first ∙ ap (λ rest. slice_range items begin end ∷ rest) (cut_from-more end ends last items more rise.1 within)

cut_from-append : {X : Type 0} (begin : ℕ) (ends others : List ℕ) (last : ℕ) (items : List X) → RiseTo begin ends last → cut_from begin (ends ++ others) items ≡ cut_from begin ends items ++ cut_from last others items
cut_from-append begin [] others last items rise = ap (λ place. cut_from place others items) rise
cut_from-append begin (end ∷ ends) others last items rise = ap (λ rest. slice_range items begin end ∷ rest) (cut_from-append end ends others last items rise.1)

-- items behind a list are those that follow
range_behind : {X : Type 0} (xs ys : List X) (end : ℕ) → end ≡ length xs + length ys → slice_range (xs ++ ys) (length xs) end ≡ ys
range_behind [] ys end is = let all : length ys ≤ end - 0 = omega (arith, is) in take_all (end - 0) ys all
range_behind (x ∷ xs) ys zero is = absurd (omega (arith, is))
range_behind (x ∷ xs) ys (suc end) is = let size : suc end - suc (length xs) ≡ end - length xs = omega arith in
    ap (λ n. take n (drop (length xs) (xs ++ ys))) size ∙ range_behind xs ys end (omega (arith, is))

-- a list more
pub cut-push : {X : Type 0} (ends : List ℕ) (items more : List X) (end : ℕ) → RiseTo 0 ends (length items) → end ≡ length items + length more → cut (ends ++ end ∷ []) (items ++ more) ≡ cut ends items ++ more ∷ []
cut-push ends items more end rise is =
    cut_from-append 0 ends (end ∷ []) (length items) (items ++ more) rise
    ∙ ap (λ lists. lists ++ slice_range (items ++ more) (length items) end ∷ []) (cut_from-more 0 ends (length items) items more rise (omega arith))
    ∙ ap (λ last. cut ends items ++ last ∷ []) (range_behind items more end is)

-- each list
pub slice_get-cut_from : {X : Type 0} (begin : ℕ) (ends : List ℕ) (items : List X) (at : ℕ) → at < length ends → slice_get (cut_from begin ends items) at ≡ Some (slice_range items (slice_index (begin ∷ ends) at) (slice_index ends at))
slice_get-cut_from begin [] items at within = absurd (omega (arith, within))
slice_get-cut_from begin (end ∷ ends) items zero within = refl
slice_get-cut_from begin (end ∷ ends) items (suc at) within = slice_get-cut_from end ends items at (omega (arith, within))

pub RiseTo-at : (begin : ℕ) (ends : List ℕ) (last at : ℕ) → RiseTo begin ends last → at < length ends → (slice_index (begin ∷ ends) at ≤ slice_index ends at) × (slice_index ends at ≤ last)
RiseTo-at begin [] last at rise within = absurd (omega (arith, within))
RiseTo-at begin (end ∷ ends) last zero rise within = (rise.0, RiseTo-le end ends last rise.1)
RiseTo-at begin (end ∷ ends) last (suc at) rise within = RiseTo-at end ends last at rise.1 (omega (arith, within))

-- two ranges, the second of which begins where the first ends
range-range : {X : Type 0} (items : List X) (begin end last : ℕ) → begin ≤ end → end ≤ last → slice_range items begin end ++ slice_range items end last ≡ slice_range items begin last
range-range items begin end last first second =
    let behind : begin + (end - begin) ≡ end = omega (arith, first) in
    let size : (end - begin) + (last - end) ≡ last - begin = omega (arith, first, second) in
    ap (λ n. slice_range items begin end ++ take (last - end) (drop n items)) (sym behind)
    ∙ ap (λ rest. slice_range items begin end ++ take (last - end) rest) (sym (drop-drop (end - begin) begin items))
    ∙ sym (take-add (end - begin) (last - end) (drop begin items))
    ∙ ap (λ n. take n (drop begin items)) size

pub flat_map-cut_from : {X : Type 0} (begin : ℕ) (ends : List ℕ) (last : ℕ) (items : List X) → RiseTo begin ends last → flat_map (λ (list : List X). list) (cut_from begin ends items) ≡ slice_range items begin last
flat_map-cut_from begin [] last items rise = let none : 0 ≡ last - begin = omega (arith, rise) in ap (λ n. take n (drop begin items)) none
flat_map-cut_from begin (end ∷ ends) last items rise =
    ap (λ rest. slice_range items begin end ++ rest) (flat_map-cut_from end ends last items rise.1) ∙ range-range items begin end last rise.0 (RiseTo-le end ends last rise.1)

-- all as one
pub flat_map-cut : {X : Type 0} (ends : List ℕ) (items : List X) → RiseTo 0 ends (length items) → flat_map (λ (list : List X). list) (cut ends items) ≡ items
flat_map-cut ends items rise = flat_map-cut_from 0 ends (length items) items rise ∙ take_all (length items - 0) items (omega arith)

-- where there is room for more, there aren't too many with them
pub few-more : (size more capacity most : ℕ) → more ≤ min capacity most - size → size ≤ most → size + more ≤ most
few-more size more capacity most room few = omega (arith, room, few)

-- the first lists, and those from a place on
cut_from-take : {X : Type 0} (begin : ℕ) (ends : List ℕ) (items : List X) (n : ℕ) → cut_from begin (take n ends) items ≡ take n (cut_from begin ends items)
cut_from-take begin ends items zero = refl
cut_from-take begin [] items (suc n) = refl
cut_from-take begin (end ∷ ends) items (suc n) = ap (λ rest. slice_range items begin end ∷ rest) (cut_from-take end ends items n)

pub cut_from-drop : {X : Type 0} (begin : ℕ) (ends : List ℕ) (items : List X) (n : ℕ) → n ≤ length ends → cut_from (slice_index (begin ∷ ends) n) (drop n ends) items ≡ drop n (cut_from begin ends items)
cut_from-drop begin ends items zero within = refl
cut_from-drop begin [] items (suc n) within = absurd (omega (arith, within))
cut_from-drop begin (end ∷ ends) items (suc n) within = cut_from-drop end ends items n (omega (arith, within))

RiseTo-take : (begin : ℕ) (ends : List ℕ) (last n : ℕ) → RiseTo begin ends last → n ≤ length ends → RiseTo begin (take n ends) (slice_index (begin ∷ ends) n)
RiseTo-take begin ends last zero rise within = refl
RiseTo-take begin [] last (suc n) rise within = absurd (omega (arith, within))
RiseTo-take begin (end ∷ ends) last (suc n) rise within = (rise.0, RiseTo-take end ends last n rise.1 (omega (arith, within)))

pub RiseTo-drop : (begin : ℕ) (ends : List ℕ) (last n : ℕ) → RiseTo begin ends last → n ≤ length ends → RiseTo (slice_index (begin ∷ ends) n) (drop n ends) last
RiseTo-drop begin ends last zero rise within = rise
RiseTo-drop begin [] last (suc n) rise within = absurd (omega (arith, within))
RiseTo-drop begin (end ∷ ends) last (suc n) rise within = RiseTo-drop end ends last n rise.1 (omega (arith, within))

slice_index-drop : (begin : ℕ) (ends : List ℕ) (m n : ℕ) → m ≤ length ends → slice_index (slice_index (begin ∷ ends) m ∷ drop m ends) n ≡ slice_index (begin ∷ ends) (m + n)
slice_index-drop begin ends zero n within = let same : n ≡ 0 + n = omega arith in ap (slice_index (begin ∷ ends)) same
slice_index-drop begin [] (suc m) n within = absurd (omega (arith, within))
slice_index-drop begin (end ∷ ends) (suc m) n within =
    let same : suc (m + n) ≡ suc m + n = omega arith in
    slice_index-drop end ends m n (omega (arith, within)) ∙ ap (slice_index (begin ∷ end ∷ ends)) same

-- places so much before
abbrev pub places_before : ℕ → List ℕ → List ℕ
places_before by ends = map (λ end. end - by) ends

RiseTo-before : (by begin : ℕ) (ends : List ℕ) (last : ℕ) → by ≤ begin → RiseTo begin ends last → RiseTo (begin - by) (places_before by ends) (last - by)
RiseTo-before by begin [] last above rise = ap (λ n. n - by) rise
RiseTo-before by begin (end ∷ ends) last above rise = (omega (arith, rise.0), RiseTo-before by end ends last (omega (arith, above, rise.0)) rise.1)

-- a range of a range
range-of_range : {X : Type 0} (items : List X) (by begin end last : ℕ) → by ≤ begin → begin ≤ end → end ≤ last → slice_range (slice_range items by last) (begin - by) (end - by) ≡ slice_range items begin end
range-of_range items by begin end last above rises within =
    let size : end - by - (begin - by) ≡ end - begin = omega (arith, above, rises) in
    let all : last - by ≡ begin - by + (last - begin) = omega (arith, above, rises, within) in
    let behind : by + (begin - by) ≡ begin = omega (arith, above) in
    let short : end - begin ≤ last - begin = omega (arith, rises, within) in
    ap (λ n. take n (drop (begin - by) (take (last - by) (drop by items)))) size
    ∙ ap (λ n. take (end - begin) (drop (begin - by) (take n (drop by items)))) all
    ∙ ap (take (end - begin)) (drop-take (begin - by) (last - begin) (drop by items))
    ∙ take-take (end - begin) (last - begin) (drop (begin - by) (drop by items)) short
    ∙ ap (take (end - begin)) (drop-drop (begin - by) by items ∙ ap (λ n. drop n items) behind)

-- lists that are cut from a range of the items are those that are cut from all
cut_from-before : {X : Type 0} (by begin : ℕ) (ends : List ℕ) (last : ℕ) (items : List X) → by ≤ begin → RiseTo begin ends last → cut_from (begin - by) (places_before by ends) (slice_range items by last) ≡ cut_from begin ends items
cut_from-before by begin [] last items above rise = refl
cut_from-before by begin (end ∷ ends) last items above rise =
    let below = RiseTo-le end ends last rise.1 in
    ap (λ first. first ∷ cut_from (end - by) (places_before by ends) (slice_range items by last)) (range-of_range items by begin end last above rise.0 below)
    ∙ ap (λ rest. slice_range items begin end ∷ rest) (cut_from-before by end ends last items (omega (arith, above, rise.0)) rise.1)

-- so many lists from a place on, cut from the items between where the first begins and where the last ends
range_rises : (ends : List ℕ) (last m n : ℕ) → RiseTo 0 ends last → m + n ≤ length ends → RiseTo (slice_index (0 ∷ ends) m) (take n (drop m ends)) (slice_index (0 ∷ ends) (m + n))
range_rises ends last m n rise within =
    let there : m ≤ length ends = omega (arith, within) in
    subst (RiseTo (slice_index (0 ∷ ends) m) (take n (drop m ends))) (slice_index-drop 0 ends m n there)
    (RiseTo-take (slice_index (0 ∷ ends) m) (drop m ends) last n (RiseTo-drop 0 ends last m rise there) (omega (arith, within, length-drop m ends)))

pub RiseTo-range : (ends : List ℕ) (last m n : ℕ) → RiseTo 0 ends last → m + n ≤ length ends → RiseTo 0 (places_before (slice_index (0 ∷ ends) m) (take n (drop m ends))) (slice_index (0 ∷ ends) (m + n) - slice_index (0 ∷ ends) m)
RiseTo-range ends last m n rise within =
    let begin = slice_index (0 ∷ ends) m in
    let none : begin - begin ≡ 0 = omega arith in
    subst (λ place. RiseTo place (places_before begin (take n (drop m ends))) (slice_index (0 ∷ ends) (m + n) - begin)) none
    (RiseTo-before begin begin (take n (drop m ends)) (slice_index (0 ∷ ends) (m + n)) (omega arith) (range_rises ends last m n rise within))

pub cut-range : {X : Type 0} (ends : List ℕ) (items : List X) (m n : ℕ) → RiseTo 0 ends (length items) → m + n ≤ length ends → cut (places_before (slice_index (0 ∷ ends) m) (take n (drop m ends))) (slice_range items (slice_index (0 ∷ ends) m) (slice_index (0 ∷ ends) (m + n))) ≡ take n (drop m (cut ends items))
cut-range ends items m n rise within =
    let begin = slice_index (0 ∷ ends) m in
    let last = slice_index (0 ∷ ends) (m + n) in
    let none : 0 ≡ begin - begin = omega arith in
    ap (λ place. cut_from place (places_before begin (take n (drop m ends))) (slice_range items begin last)) none
    ∙ cut_from-before begin begin (take n (drop m ends)) last items (omega arith) (range_rises ends (length items) m n rise within)
    ∙ cut_from-take begin (drop m ends) items n
    ∙ ap (take n) (cut_from-drop 0 ends items m (omega (arith, within)))

-- where lists begin, in order, and not behind the last item
pub begin-le : (ends : List ℕ) (last m n : ℕ) → RiseTo 0 ends last → m + n ≤ length ends → (slice_index (0 ∷ ends) m ≤ slice_index (0 ∷ ends) (m + n)) × (slice_index (0 ∷ ends) (m + n) ≤ last)
begin-le ends last m n rise within = (
  RiseTo-le (slice_index (0 ∷ ends) m) (take n (drop m ends)) (slice_index (0 ∷ ends) (m + n)) (range_rises ends last m n rise within),
  RiseTo-le (slice_index (0 ∷ ends) (m + n)) (drop (m + n) ends) last (RiseTo-drop 0 ends last (m + n) rise within),
)

pub length-range : {X : Type 0} (items : List X) (begin end : ℕ) → end ≤ length items → length (slice_range items begin end) ≡ end - begin
length-range items begin end within = omega (arith, within, length-take (end - begin) (drop begin items), length-drop begin items)

-- so many elements from a place on
pub range_is : {X : Type 0} (xs : List X) (from count : ℕ) → slice_range xs from (from + count) ≡ take count (drop from xs)
range_is xs from count = let size : from + count - from ≡ count = omega arith in ap (λ n. take n (drop from xs)) size
